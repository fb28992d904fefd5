-- Lists of seats at the opening, that may draw, or that are over: one taken from the end, or put
-- there. The claim that a seat shows.
use Rattle.std.proofs.Common.{◌≡◌, ℕ, ◌+◌, ◌<◌, ◌≤◌, Bool, List, [], ◌∷◌, ◌++◌, length, Some, sym, ap, subst, ◌∙◌, arith}
use Rattle.market.specs.Dictatorships.{Dictatorship, list_at}
use Rattle.interleaving_core.specs.declared.parts.Claiming.{Claiming}
use Rattle.interleaving_core.specs.Core.{turn_count, claim_at}
use Rattle.word_rule.specs.Rounds.{knows, dict_of, shares_of, IsSeatOf, IsNew, AreNew, IsOver, AreOver}
use Rattle.word_rule.specs.declared.seat.SharedRound.{SharedRound}
use Rattle.word_rule.specs.declared.seat.WorkSeat.{WorkSeat}
use Rattle.interleaving_core.proofs.Places.{each_last, each_snoc}
use Rattle.word_rule.proofs.Seats.{shares_last}
use Rattle.gate_workers.specs.Seats.{IsWorking, AreWorking, IsClaimOf}

-- the last of seats at the opening, and the others
pub new_last : (round : SharedRound) (l xs : List WorkSeat) (m : WorkSeat) → l ≡ xs ++ m ∷ []
    → AreNew round l → IsNew round (length xs) m × AreNew round xs
new_last round = each_last (IsNew round)

-- by another form of its number
pub new_at : (round : SharedRound) (k n : ℕ) (m : WorkSeat) → IsNew round k m → k ≡ n
    → IsNew round n m
new_at round k n m new is = subst (λ (z : ℕ). IsNew round z m) is new

-- one more seat that is over
pub over_snoc : (round : SharedRound) (l xs : List WorkSeat) (m : WorkSeat) → l ≡ xs ++ m ∷ []
    → AreOver round xs → IsOver round m → AreOver round l
over_snoc round = each_snoc (λ _ me. IsOver round me)

-- the last of seats that may draw, and the others
pub ready_last : (round : SharedRound) (l xs : List WorkSeat) (m : WorkSeat) → l ≡ xs ++ m ∷ []
    → AreWorking round l → IsWorking round m × AreWorking round xs
ready_last round = each_last (λ _ me. IsWorking round me)

-- one more such seat
pub ready_snoc : (round : SharedRound) (l xs : List WorkSeat) (m : WorkSeat) → l ≡ xs ++ m ∷ []
    → AreWorking round xs → IsWorking round m → AreWorking round l
ready_snoc round = each_snoc (λ _ me. IsWorking round me)

-- one seat more has moved from one list to the other, with its share
pub shares_moved : (from rest to moved : List WorkSeat) (me new : WorkSeat) (all : ℕ)
    → from ≡ rest ++ me ∷ [] → to ≡ moved ++ new ∷ [] → (knows new).share ≡ (knows me).share
    → shares_of moved + shares_of from ≡ all → shares_of to + shares_of rest ≡ all
shares_moved from rest to moved me new all taken put same sum =
    let before = shares_last from rest me taken in
    let after = shares_last to moved new put in
    omega arith

-- the claim that a seat of the round shows, within the turns and lists of the round
pub record ClaimWithin (me : WorkSeat) (d : Dictatorship) (x : Claiming) : Type 0 where
  pub claim : (knows me).core.claim ≡ Some x
  pub turn : x.turn < turn_count d
  pub passed : x.passed ≤ length (list_at d x.turn)
  pub same : length (list_at d x.turn) ≡ length (list_at (knows me).dict x.turn)

-- it lies within them
pub claim_within : (round : SharedRound) (me : WorkSeat) (d : Dictatorship) (x : Claiming)
    → IsSeatOf round me × (d ≡ dict_of round) → me.claim ≡ Some x → ClaimWithin me d x
claim_within round me d x seat is =
    let same : (knows me).dict ≡ d = seat.0.dict ∙ sym seat.1 in
    let claim = sym me.claim_is ∙ is in
    record {
      claim = claim;
      turn = subst (λ (z : Dictatorship). x.turn < turn_count z) same
          (me.in_range.claimed _ _ _ _ claim);
      passed = subst (λ (z : Dictatorship). x.passed ≤ length (list_at z x.turn)) same
          (me.in_range.passed _ _ _ _ claim);
      same = ap (λ (z : Dictatorship). length (list_at z x.turn)) (sym same);
    }

-- a claim by what it says of flags and of an entry met
pub claim_is : (me : WorkSeat) (x : Claiming) (left : ℕ) (looked met : Bool) → IsClaimOf me x left
    → x.looked ≡ looked → x.met ≡ met
    → (knows me).core.claim ≡ claim_at x.turn x.passed looked met
claim_is me x left looked met is found entry =
    is.claim ∙ (λ k. claim_at x.turn x.passed (found k) (entry k))
