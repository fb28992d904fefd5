-- What committing a prefix of the posted turns does.
use Rattle.std.specs.Prelude.{◌≡◌, ◌≢◌, ℕ, ◌+◌, ◌≤◌, true, false, Option, MatchOption}
use Rattle.interleaving_core.specs.declared.parts.Phase.{Phase}
use Rattle.interleaving_core.specs.Core.{turn_count}
use Rattle.interleaving_core.specs.Events.{Seals, IsAllowed}
use Rattle.word_rule.specs.Layout.{is_held, mark_number}
use Rattle.word_rule.specs.Views.{SeatKnows}
use Rattle.word_rule.specs.Holder.{as_holder, tried, having_sealed, released_with}
use Rattle.word_rule.specs.Rounds.{knows}
use Rattle.word_rule.specs.declared.seat.WorkSeat.{WorkSeat}

-- the holder knows where its turn goes: a seat was taken there, or its whole list is full
pub record IsSettled (old new : WorkSeat) : Type 0 where
  pub place : ℕ
  pub phase : Phase
  pub allowed : IsAllowed (knows new).dict (knows new).core (Seals old.committed place phase)
  pub view : knows new ≡ as_holder (knows old) old.committed phase

-- the holder committed so many turns and gave the mark back with their sum. A done seat with every
-- share has committed every turn left
pub record HasSwept (old new : WorkSeat) (count : ℕ) : Type 0 where
  pub view : knows new ≡ released_with (having_sealed (knows old) old.committed count)
      (old.committed + count)
  pub within : old.committed + count ≤ turn_count (knows old).dict
  pub whole : (knows old).share ≡ (knows old).workers → (knows old).core.done ≡ true
      → old.committed + count ≡ turn_count (knows old).dict

-- the mark was held: there is a word found that says so, and the seat's view is that of a miss. So
-- other seats have a share
pub record IsMiss (old new : WorkSeat) : Type 0 where
  pub found : ℕ
  pub held : is_held found ≡ true
  pub view : knows new ≡ tried (knows old) true (mark_number found)
  pub shared : (knows old).share ≢ (knows old).workers

-- the seat after it took the mark with this number, committed so many turns, and gave the mark
-- back with their sum
abbrev pub swept : SeatKnows → ℕ → ℕ → SeatKnows
swept x number count =
    released_with (having_sealed (tried x false number) number count) (number + count)

-- the mark was free: there is a word found that says so, from whose number on so many turns were
-- committed. A done seat with every share has committed every turn left
pub record IsSweep (old new : WorkSeat) (count : ℕ) : Type 0 where
  pub found : ℕ
  pub free : is_held found ≡ false
  pub view : knows new ≡ swept (knows old) (mark_number found) count
  pub within : (knows new).released ≤ turn_count (knows old).dict
  pub whole : (knows old).share ≡ (knows old).workers → (knows old).core.done ≡ true
      → (knows new).released ≡ turn_count (knows old).dict

-- a prefix committed: none where the mark was held, and else how many turns
abbrev pub IsPrefixCommit : WorkSeat → WorkSeat → Option ℕ → Type 0
IsPrefixCommit old new answer = MatchOption answer (IsMiss old new) (λ count. IsSweep old new count)
