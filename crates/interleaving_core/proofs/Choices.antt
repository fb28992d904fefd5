-- The choice of a turn, from which entries of its list are full: by the least place that is not.
use Rattle.std.proofs.Common.{◌≡◌, ℕ, suc, ◌+◌, ◌<◌, ◌≤◌, Bool, true, false, cond, length, get_or, eqb, refl, sym, ap, subst, ◌∙◌, arith}
use Rattle.std.specs.Prelude.{slice_get}
use Rattle.std.proofs.lemmas.Bool.{lt-ltb, le-ltb, ltb-true}
use Rattle.std.proofs.lemmas.List.Sums.{position_or_len_is, passes_at_first}
use Rattle.std.proofs.lemmas.Option.{slice_get-get_or, slice_get_past}
use Rattle.market.specs.Counting.{is_programme}
use Rattle.market.specs.Dictatorships.{Dictatorship, list_at, has_seat, first_open, picks, choice, pick, seats_taken}
use Rattle.market.proofs.Turns.{seats_taken-suc}
use Rattle.interleaving_core.specs.Core.{entry, quota_of}
use Rattle.interleaving_core.specs.Sound.{bit, seats_after}

-- the choice is the place before which all entries are full, and which is not full itself
pub choice_is : (d : Dictatorship) (k j : ℕ) → j ≤ length (list_at d k)
    → ((i : ℕ) → i < j → quota_of d (entry d k i) ≤ seats_after d k (entry d k i))
    → (j < length (list_at d k) → seats_after d k (entry d k j) < quota_of d (entry d k j))
    → choice d k ≡ j
unfolding choice first_open has_seat seats_taken
choice_is d k j within full free =
    position_or_len_is (has_seat d (picks d k)) (list_at d k) j 0 within
    (λ i l. le-ltb _ _ (full i l)) (λ l. lt-ltb _ _ (free l))

-- a turn that chooses place j finds a seat left there
pub choice_open : (d : Dictatorship) (k j : ℕ) → choice d k ≡ j → j < length (list_at d k)
    → seats_after d k (entry d k j) < quota_of d (entry d k j)
unfolding choice first_open has_seat seats_taken
choice_open d k j e l =
    let open' = has_seat d (picks d k) in
    let list = list_at d k in
    let passes = passes_at_first open' list 0 (subst (λ (n : ℕ). n < length list) (sym e) l) in
    ltb-true _ _ (subst (λ (n : ℕ). open' (get_or list n 0) ≡ true) e passes)

cond_bit : (b : Bool) → cond {A = ℕ} b 1 0 ≡ bit b
cond_bit true = refl
cond_bit false = refl

-- a turn that chooses place j takes a seat of the programme there
pub takes_seat : (d : Dictatorship) (k j p : ℕ) → choice d k ≡ j → j < length (list_at d k)
    → seats_after d (suc k) p ≡ seats_after d k p + bit (eqb (entry d k j) p)
unfolding pick
takes_seat d k j p e l =
    let next = seats_taken-suc d k p in
    let is = ap (slice_get (list_at d k)) e ∙ slice_get-get_or (list_at d k) j 0 l in
    let one = ap (λ o. cond {A = ℕ} (is_programme p o) 1 0) is ∙ cond_bit (eqb (entry d k j) p) in
    omega arith

-- a turn that chooses the end of its list takes none
pub takes_none : (d : Dictatorship) (k p : ℕ) → choice d k ≡ length (list_at d k)
    → seats_after d (suc k) p ≡ seats_after d k p
unfolding pick
takes_none d k p e =
    let next = seats_taken-suc d k p in
    let is = ap (slice_get (list_at d k)) e
    ∙ slice_get_past (list_at d k) (length (list_at d k)) (omega arith) in
    let none = ap (λ o. cond {A = ℕ} (is_programme p o) 1 0) is in
    omega arith
