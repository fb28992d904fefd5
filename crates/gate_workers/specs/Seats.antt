-- Seats and their steps, as the tests speak of them.
use Rattle.std.specs.Prelude.{◌≡◌, ℕ, ◌+◌, Bool, false, List, length, slice_get, Some}
use Rattle.market.specs.Dictatorships.{list_at}
use Rattle.interleaving_core.specs.declared.parts.Claiming.{Claiming}
use Rattle.word_rule.specs.Rounds.{knows, IsSeatOf}
use Rattle.word_rule.specs.declared.seat.SharedRound.{SharedRound}
use Rattle.word_rule.specs.declared.seat.WorkSeat.{WorkSeat}

-- it is a seat of this round, that stands for as many workers and is done as before, and owes a
-- try on the mark or does not
pub record HasStepped (round : SharedRound) (old new : WorkSeat) (debt : Bool) : Type 0 where
  pub of_round : IsSeatOf round new
  pub share : (knows new).share ≡ (knows old).share
  pub done : (knows new).core.done ≡ (knows old).core.done
  pub owes : (knows new).core.owes ≡ debt

-- it is a seat of this round that is not done and owes no try on the mark
pub record IsWorking (round : SharedRound) (me : WorkSeat) : Type 0 where
  pub of_round : IsSeatOf round me
  pub working : (knows me).core.done ≡ false
  pub paid : (knows me).core.owes ≡ false

-- each of these seats is
abbrev pub AreWorking : SharedRound → List WorkSeat → Type 0
AreWorking round seats = (k : ℕ) (me : WorkSeat) → slice_get seats k ≡ Some me → IsWorking round me

-- this is the seat's claim, and so many entries of its turn's list are left that it has not passed
pub record IsClaimOf (me : WorkSeat) (x : Claiming) (left : ℕ) : Type 0 where
  pub claim : (knows me).core.claim ≡ Some x
  pub places : x.passed + left ≡ length (list_at (knows me).dict x.turn)
