-- The seats of a team, before and after its work.
use Rattle.std.proofs.Common.{◌≡◌, ℕ, suc, ◌<◌, List, [], ◌∷◌, ◌++◌, length, take, drop, get_or, Some, sym, refl, ap, subst, ◌∙◌, arith, append-nil}
use Rattle.std.proofs.Math.ListN.{drop_of_length-le}
use Rattle.std.proofs.lemmas.Option.{slice_get-get_or, slice_get_within, get_or_from_slice_get}
use Rattle.std.proofs.lemmas.List.Sums.{sum_by-cons}
use Rattle.std.specs.Prelude.{slice_get}
use Rattle.interleaving_core.specs.Core.{View}
use Rattle.word_rule.specs.Rounds.{knows, IsNew, AreNew, IsOver, AreOver, shares_of}
use Rattle.word_rule.specs.declared.seat.SharedRound.{SharedRound}
use Rattle.word_rule.specs.declared.seat.WorkSeat.{WorkSeat}
use Rattle.gate_workers.specs.Workers.{IsReady, HasFinished}

module _ {A : Type 0} where
  take_all : (l : List A) (n : ℕ) → n ≡ length l → take n l ≡ l
  take_all l n e = ap (λ (k : ℕ). take k l) e ∙ all l
    where
      all : (l : List A) → take (length l) l ≡ l
      all [] = refl
      all (x ∷ xs) = ap (λ (z : List A). x ∷ z) (all xs)

  -- a vector whose items were all written anew
  pub whole : (n : ℕ) (new old : List A) → length new ≡ length old → n ≡ length old
      → take n (new ++ drop (length new) old) ≡ new
  whole n new old same is =
      ap (λ (z : List A). take n (new ++ z)) (drop_of_length-le old (omega arith))
      ∙ (ap (take n) (append-nil new) ∙ take_all new n (is ∙ sym same))

ready_one : (round : SharedRound) (k : ℕ) (me : WorkSeat) → IsNew round k me → IsReady round me
ready_one round k me new =
    record {
      of_round = new.of_round;
      may = (
        ap (λ (v : View). v.claim) new.fresh,
        ap (λ (v : View). v.hold) new.fresh,
        ap (λ (v : View). v.done) new.fresh,
        ap (λ (v : View). v.owes) new.fresh,
      );
    }

-- seats at the opening may draw
pub all_ready : (round : SharedRound) (l : List WorkSeat) → AreNew round l
    → (i : ℕ) (d : WorkSeat) → i < length l → IsReady round (get_or l i d)
all_ready round l all i d h = ready_one round i (get_or l i d)
    (all i (get_or l i d) (slice_get-get_or l i d h))

shares_one : (l : List WorkSeat)
    → ((k : ℕ) (me : WorkSeat) → slice_get l k ≡ Some me → (knows me).share ≡ 1)
    → shares_of l ≡ length l
shares_one [] h = refl
shares_one (x ∷ xs) h =
    let a = h 0 x refl in
    let one = sum_by-cons (λ me. (knows me).share) x xs in
    omega (arith, shares_one xs (λ k me e. h (suc k) me e))

-- seats that have worked are over, and stand for as many workers as before
pub team_over : (round : SharedRound) (xs ys : List WorkSeat) → AreNew round xs
    → length ys ≡ length xs
    → ((i : ℕ) (d : WorkSeat) → i < length xs → HasFinished round (get_or xs i d) (get_or ys i d))
    → AreOver round ys × (shares_of ys ≡ length ys)
team_over round xs ys new same worked = (
  λ k me e.
      let l = slice_get_within ys k me e in
      subst (IsOver round) (get_or_from_slice_get ys k me me e) ((worked k me (omega arith)).over),
  shares_one ys (λ k me e.
      let l = slice_get_within ys k me e in
      let h : k < length xs = omega arith in
      ap (λ m. (knows m).share) (sym (get_or_from_slice_get ys k me me e))
      ∙ ((worked k me h).stays.share
      ∙ (new k (get_or xs k me) (slice_get-get_or xs k me h)).share)),
)
