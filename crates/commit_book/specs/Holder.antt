-- When the calls on the mark may be made, and the event that each of them is.
use Rattle.std.specs.Prelude.{◌≡◌, ℕ, ◌+◌, ◌<◌, ◌≤◌, Bool, true, not, nat_lt, nat_le, Option, None, MatchOption, IsSome}
use Rattle.interleaving_core.specs.declared.parts.Cell.{Cell}
use Rattle.interleaving_core.specs.declared.parts.Cell.TheVariants.{Empty, Posted}
use Rattle.interleaving_core.specs.declared.parts.Phase.{Phase}
use Rattle.interleaving_core.specs.declared.parts.Phase.TheVariants.{Idle, Scan, Ready, Seated}
use Rattle.interleaving_core.specs.Core.{turn_count, entry, quota_of, hold_at}
use Rattle.interleaving_core.specs.Events.{Takes, Weighs, Seats, Seals, Releases, IsAllowed, phase_after_look, phase_after_weigh}
use Rattle.word_rule.specs.Views.{SeatKnows}
use Rattle.word_rule.specs.Layout.{is_held, mark_number}
use Rattle.word_rule.specs.Holder.{as_holder, tried, having_sealed, released_with}
use Rattle.word_rule.specs.Rounds.{knows}
use Rattle.word_rule.specs.declared.seat.WorkSeat.{WorkSeat}

-- the seat may try to take the mark: it has no claim and does not hold the mark
abbrev pub MayTake : WorkSeat → Type 0
MayTake me = IsAllowed (knows me).dict (knows me).core Takes

-- the seat may look: it holds the mark and is idle, with so many turns committed
pub record MayLook (me : WorkSeat) : Type 0 where
  pub committed : ℕ
  pub idle : (knows me).core.hold ≡ hold_at committed Idle

-- the seat may weigh the entry at this place of the first uncommitted turn
pub record MayWeigh (me : WorkSeat) : Type 0 where
  pub committed : ℕ
  pub place : ℕ
  pub allowed : IsAllowed (knows me).dict (knows me).core (Weighs committed place)

-- the seat may take a seat of that entry
pub record MaySeat (me : WorkSeat) : Type 0 where
  pub committed : ℕ
  pub place : ℕ
  pub allowed : IsAllowed (knows me).dict (knows me).core (Seats committed place)

-- the seat may commit the first uncommitted turn at this place
pub record MaySeal (me : WorkSeat) : Type 0 where
  pub committed : ℕ
  pub place : ℕ
  pub phase : Phase
  pub allowed : IsAllowed (knows me).dict (knows me).core (Seals committed place phase)

-- the seat may give the mark back
pub record MayRelease (me : WorkSeat) : Type 0 where
  pub committed : ℕ
  pub phase : Phase
  pub allowed : IsAllowed (knows me).dict (knows me).core (Releases committed phase)

-- a try on the mark: there is a word found at this step; the seat's view is the core's for it, and
-- the answer is whether the word was even. A seat with every share is answered true
pub record IsTake (old new : WorkSeat) (answer : Bool) : Type 0 where
  pub found : ℕ
  pub view : knows new ≡ tried (knows old) (is_held found) (mark_number found)
  pub answered : answer ≡ not (is_held found)
  pub free : (knows old).share ≡ (knows old).workers → answer ≡ true

-- a look at the first uncommitted turn: there is a cell found at this step; the seat's view is the
-- core's for it, and the answer is the place posted there, none where the cell is empty. A done
-- seat with every share finds a place
pub record IsLookAt (old new : SeatKnows) (committed : ℕ) (answer : Option ℕ) : Type 0 where
  pub found : Cell
  pub view : new ≡ as_holder old committed (phase_after_look found)
  pub answered : MatchOption answer (found ≡ Empty) (λ place. found ≡ Posted place)
  pub posted : old.share ≡ old.workers → old.core.done ≡ true → IsSome answer

-- a look: with all turns committed nothing is read, the view stays, and there is no answer; else
-- the first uncommitted turn's cell is read
pub record IsLook (old new : WorkSeat) (answer : Option ℕ) : Type 0 where
  pub committed : ℕ
  pub idle : (knows old).core.hold ≡ hold_at committed Idle
  pub all : turn_count (knows old).dict ≤ committed → (knows new ≡ knows old) × (answer ≡ None)
  pub left : committed < turn_count (knows old).dict
      → IsLookAt (knows old) (knows new) committed answer

-- a weighing: there is a seat count found at this step; the seat's view is the core's for it, and
-- the answer is whether it has reached the quota
pub record IsWeigh (old new : WorkSeat) (answer : Bool) : Type 0 where
  pub committed : ℕ
  pub place : ℕ
  pub found : ℕ
  pub scan : (knows old).core.hold ≡ hold_at committed (Scan place)
  pub view : knows new ≡ as_holder (knows old) committed
      (phase_after_weigh (nat_lt found
      (quota_of (knows old).dict (entry (knows old).dict committed place))) place)
  pub answered : answer ≡ nat_le
      (quota_of (knows old).dict (entry (knows old).dict committed place)) found

-- a seat taken: there is a seat count found at this step; the answer is whether one more has
-- reached the quota, and the seat's view is the core's for it
pub record IsSeat (old new : WorkSeat) (answer : Bool) : Type 0 where
  pub committed : ℕ
  pub place : ℕ
  pub found : ℕ
  pub ready : (knows old).core.hold ≡ hold_at committed (Ready place)
  pub view : knows new ≡ as_holder (knows old) committed (Seated place answer)
  pub answered : answer ≡ nat_le
      (quota_of (knows old).dict (entry (knows old).dict committed place)) (found + 1)

-- a commit: the answer is the turn, and one turn more is committed, by this seat
pub record IsSeal (old new : WorkSeat) (answer : ℕ) : Type 0 where
  pub phase : Phase
  pub hold : (knows old).core.hold ≡ hold_at answer phase
  pub view : knows new ≡ having_sealed (knows old) answer 1

-- a release: the mark is free with the number of committed turns
pub record IsRelease (old new : WorkSeat) : Type 0 where
  pub committed : ℕ
  pub phase : Phase
  pub hold : (knows old).core.hold ≡ hold_at committed phase
  pub view : knows new ≡ released_with (knows old) committed
