-- How many turns are committed after an event: one more after a commit, and else as many as before.
use Rattle.std.proofs.Common.{◌≡◌, ℕ, ◌+◌, ◌<◌, get_or, set, Some, sym, refl, ap, ◌∙◌, arith, get_or-set_same, get_or-set_other}
use Rattle.std.specs.Prelude.{slice_get}
use mathlib.Core.Logic.{dite}
use native.Mathlib.Decide.{ℕ_discrete}
use Rattle.market.specs.Dictatorships.{Dictatorship}
use Rattle.interleaving_core.specs.declared.parts.Cell.TheVariants.{Empty, Posted}
use Rattle.interleaving_core.specs.declared.parts.Claiming.{Claiming}
use Rattle.interleaving_core.specs.declared.parts.Phase.TheVariants.{Idle}
use Rattle.interleaving_core.specs.Core.{View, Core, cell_at, is_committed, hold_at}
use Rattle.interleaving_core.specs.Events.{Action, Claims, ReadsFlags, Reads, Posts, Takes, Looks, Weighs, Seats, Raises, Seals, Releases, IsAllowed, with_hold, after}
use Rattle.interleaving_core.specs.Sound.{IsSound}
use Rattle.interleaving_core.proofs.Views.{here_set}
use Rattle.interleaving_core.proofs.ClaimantKeeps.{claimed_open}

-- how many turns an action commits
abbrev pub commits : Action → ℕ
commits Claims = 0
commits (ReadsFlags k j) = 0
commits (Reads k j) = 0
commits (Posts k j looked met) = 0
commits Takes = 0
commits (Looks h) = 0
commits (Weighs h j) = 0
commits (Seats h j) = 0
commits (Raises h j) = 0
commits (Seals h j phase) = 1
commits (Releases h phase) = 0

-- two sound states whose cells are committed alike have as many committed turns
pub same_count : (d : Dictatorship) (c e : Core) (s : IsSound d c) (t : IsSound d e)
    → ((k : ℕ) → is_committed (cell_at e k) ≡ is_committed (cell_at c k)) → t.count ≡ s.count
same_count d c e s t alike =
    let least : t.count < s.count → ⊥ =
    λ l.
    let below = ap is_committed (s.cells.below t.count l) in
    let above = t.cells.above t.count (omega arith) in
    let same = alike t.count in
    cc (below, above, same) in
    let most : s.count < t.count → ⊥ =
    λ l.
    let below = ap is_committed (t.cells.below s.count l) in
    let above = s.cells.above s.count (omega arith) in
    let same = alike s.count in
    cc (below, above, same) in
    elim (native.Mathlib.Decide.dec_le t.count s.count) [
      | yes l ↦
          elim (native.Mathlib.Decide.dec_le s.count t.count) [
            | yes m ↦ omega arith
            | no n ↦ absurd (least (omega arith))
          ]
      | no n ↦ absurd (most (omega arith))
    ]

stays : (d : Dictatorship) (c e : Core) (s : IsSound d c) (t : IsSound d e)
    → ((k : ℕ) → is_committed (cell_at e k) ≡ is_committed (cell_at c k)) → t.count ≡ s.count + 0
stays d c e s t alike = let same = same_count d c e s t alike in omega arith

-- the state after an allowed event has as many committed turns as before, and those that it commits
pub count_after : (d : Dictatorship) (c : Core) (i : ℕ) (v : View) (a : Action) (s : IsSound d c)
    (t : IsSound d (after d c i v a)) → slice_get c.views i ≡ Some v → IsAllowed d v a
    → t.count ≡ s.count + commits a
count_after d c i v Claims s t at may = stays d c _ s t (λ k. refl)
count_after d c i v (ReadsFlags k j) s t at may = stays d c _ s t (λ k. refl)
count_after d c i v (Reads k j) s t at may = stays d c _ s t (λ k. refl)
count_after d c i v (Posts k j looked met) s t at may =
    let mine : Claiming = record { turn = k; passed = j; looked = looked; met = met } in
    let empty = claimed_open d c s i v mine at may.0 in
    let wide = s.cells.each_turn in
    let inside = ((s.views i v at).claim mine may.0).turn in
    let here = get_or-set_same c.cells k (Posted j) Empty (omega arith) in
    stays d c _ s t (λ n.
    dite (ℕ_discrete n k)
    (λ is. ap is_committed (ap (λ (m : ℕ). get_or (set c.cells k (Posted j)) m Empty) is ∙ here)
    ∙ sym (ap is_committed (ap (cell_at c) is ∙ empty)))
    (λ other. ap is_committed (get_or-set_other c.cells k n (Posted j) Empty other)))
count_after d c i v Takes s t at may = stays d c _ s t (λ k. refl)
count_after d c i v (Looks h) s t at may = stays d c _ s t (λ k. refl)
count_after d c i v (Weighs h j) s t at may = stays d c _ s t (λ k. refl)
count_after d c i v (Seats h j) s t at may = stays d c _ s t (λ k. refl)
count_after d c i v (Raises h j) s t at may = stays d c _ s t (λ k. refl)
count_after d c i v (Seals h j phase) s t at may =
    let before = ((s.views i v at).hold _ may.0).committed in
    let w : View = with_hold v (hold_at (h + 1) Idle) in
    let now = ((t.views i w (here_set c.views i v w at)).hold _ refl).committed in
    omega arith
count_after d c i v (Releases h phase) s t at may = stays d c _ s t (λ k. refl)
