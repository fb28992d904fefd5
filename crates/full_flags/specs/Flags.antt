-- When flags may be looked at, and what that does and tells.
use Rattle.std.specs.Prelude.{◌≡◌, ℕ, false}
use Rattle.atomic_table.specs.Table.{State}
use Rattle.interleaving_core.specs.Core.{claim_at}
use Rattle.interleaving_core.specs.Events.{ReadsFlags, IsAllowed}
use Rattle.word_rule.specs.Views.{SeatKnows}
use Rattle.word_rule.specs.Rule.{IsLive, IsSoundTable, HasReadFull, table_core}
use Rattle.word_rule.specs.Claimant.{flags_by}
use Rattle.word_rule.specs.Rounds.{knows}
use Rattle.word_rule.specs.declared.rule.RoundKey.{RoundKey}
use Rattle.word_rule.specs.declared.seat.WorkSeat.{WorkSeat}

-- the seat may look at flags: it has passed the entries before this place of its turn's list, and
-- has not looked at the flag of the next one
pub record MayReadFlags (me : WorkSeat) : Type 0 where
  pub turn : ℕ
  pub place : ℕ
  pub allowed : IsAllowed (knows me).dict (knows me).core (ReadsFlags turn place)

-- a look at flags: the answer is the word found at this step; the seat's view is the core's for it,
-- and keeps the word
pub record IsReadFlags (old new : WorkSeat) (answer : ℕ) : Type 0 where
  pub turn : ℕ
  pub place : ℕ
  pub claim : (knows old).core.claim ≡ claim_at turn place false false
  pub view : knows new ≡ flags_by (knows old) (claim_at turn place false false) answer

-- whatever the table is while a seat knows this, each flag that was raised in a word that the seat
-- has read is a programme's, which is full
abbrev pub KnowsFull : RoundKey → SeatKnows → Type 0
KnowsFull key x = (s : State ℕ SeatKnows) (i : ℕ) → IsSoundTable key s → IsLive s.views i x
    → HasReadFull key.dict.value (table_core key s).seats x
