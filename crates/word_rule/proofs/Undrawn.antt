-- Who has drawn no number after an event had drawn none before it, and the claim number is the
-- same.
use Rattle.std.proofs.Common.{◌≡◌, ℕ, zero, suc, ◌≢◌, Bool, true, false, List, [], ◌∷◌, ◌++◌, set, Some, None, sym, refl, ap, subst, ◌∙◌}
use Rattle.std.specs.Prelude.{nat_lt, slice_get}
use mathlib.Core.Logic.{dite}
use native.Mathlib.Decide.{ℕ_discrete}
use Rattle.market.specs.Dictatorships.{Dictatorship}
use Rattle.interleaving_core.specs.declared.parts.OwnTurn.{OwnTurn}
use Rattle.interleaving_core.specs.Core.{View, Core, turn_count, entry, is_open}
use Rattle.interleaving_core.specs.Events.{Action, Claims, ReadsFlags, Reads, Posts, Takes, Looks, Weighs, Seats, Raises, Seals, Releases, after, view_after, after_claim_if, after_read, after_take, with_place}
use Rattle.interleaving_core.proofs.Views.{here_set}
use Rattle.word_rule.specs.Views.{SeatKnows}
use Rattle.word_rule.specs.Rule.{IsLive, HasNotDrawn}

some_more : {A : Type 0} (l : List A) (x : A) → l ++ x ∷ [] ≡ [] → ⊥
some_more [] x e = absurd (cc (e))
some_more (y ∷ ys) x e = absurd (cc (e))

claims_draw : (b : Bool) (v : View) (k : ℕ) → HasNotDrawn (after_claim_if b v k) → ⊥
claims_draw true v k u = some_more v.own (record { turn = k; place = None }) u.0
claims_draw false v k u = let e = u.1 in absurd (cc (e))

no_place : (l : List OwnTurn) (j : ℕ) → with_place l j ≡ [] → l ≡ []
no_place [] j e = refl
no_place (x ∷ []) j e = absurd (cc (e))
no_place (x ∷ y ∷ ys) j e = absurd (cc (e))

read_draws_nothing : (b : Bool) (v : View) (k j : ℕ) → HasNotDrawn (after_read b v k j)
    → HasNotDrawn v
read_draws_nothing true v k j u = u
read_draws_nothing false v k j u = u

take_draws_nothing : (b : Bool) (v : View) (k : ℕ) → HasNotDrawn (after_take v b k) → HasNotDrawn v
take_draws_nothing true v k u = u
take_draws_nothing false v k u = u

-- only a claim draws
pub undrawn_before : (d : Dictatorship) (c : Core) (i : ℕ) (v : View) (a : Action)
    → HasNotDrawn (view_after d c v a)
    → HasNotDrawn v × ((after d c i v a).claim_number ≡ c.claim_number)
undrawn_before d c i v Claims u =
    absurd (claims_draw (nat_lt c.claim_number (turn_count d)) v c.claim_number u)
undrawn_before d c i v (ReadsFlags k j) u = (u, refl)
undrawn_before d c i v (Reads k j) u =
    (read_draws_nothing (is_open d c (entry d k j)) v k j u, refl)
undrawn_before d c i v (Posts k j looked met) u = ((no_place v.own j u.0, u.1), refl)
undrawn_before d c i v Takes u = (take_draws_nothing c.mark_held v c.mark_number u, refl)
undrawn_before d c i v (Looks h) u = (u, refl)
undrawn_before d c i v (Weighs h j) u = (u, refl)
undrawn_before d c i v (Seats h j) u = (u, refl)
undrawn_before d c i v (Raises h j) u = (u, refl)
undrawn_before d c i v (Seals h j phase) u = (u, refl)
undrawn_before d c i v (Releases h phase) u = (u, refl)

-- what was written leaves what stands at another place
pub still_there : {A : Type 0} (l : List A) (i j : ℕ) (x y : A) → j ≢ i → slice_get l j ≡ Some x
    → slice_get (set l i y) j ≡ Some x
still_there [] i j x y other e = e
still_there (z ∷ zs) zero zero x y other e = absurd (other refl)
still_there (z ∷ zs) zero (suc j) x y other e = e
still_there (z ∷ zs) (suc i) zero x y other e = e
still_there (z ∷ zs) (suc i) (suc j) x y other e = still_there zs i j x y (λ q. other (ap suc q)) e

-- the view written is the one that the event leads to
pub new_view : (l : List View) (i : ℕ) (v w u : View) → slice_get l i ≡ Some v
    → set l i w ≡ set l i u → w ≡ u
new_view l i v w u at same =
    let e : Some w ≡ Some u =
    sym (here_set l i v w at) ∙ (ap (λ z. slice_get z i) same ∙ here_set l i v u at) in
    cc (e)

-- where no seat has drawn after one has changed, and that one had not before, no seat had
pub nobody_before : (l : List SeatKnows) (id : ℕ) (x y : SeatKnows) → IsLive l id x
    → HasNotDrawn x.core
    → ((i : ℕ) (a : SeatKnows) → IsLive (set l id y) i a → HasNotDrawn a.core)
    → (i : ℕ) (a : SeatKnows) → IsLive l i a → HasNotDrawn a.core
nobody_before l id x y at mine nobody i a is =
    dite (ℕ_discrete i id)
    (λ here.
    let e : Some x ≡ Some a = sym at.there ∙ (ap (slice_get l) (sym here) ∙ is.there) in
    let same : x ≡ a = cc (e) in
    subst (λ (z : SeatKnows). HasNotDrawn z.core) same mine)
    (λ other. nobody i a record { there = still_there l id i a y other is.there; live = is.live })
