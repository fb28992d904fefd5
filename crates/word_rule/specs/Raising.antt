-- When the flag of a filled programme may be raised, and what that does.
use Rattle.std.specs.Prelude.{◌≡◌, ℕ, true}
use Rattle.interleaving_core.specs.declared.parts.Phase.TheVariants.{Seated, Raised}
use Rattle.interleaving_core.specs.Core.{hold_at}
use Rattle.interleaving_core.specs.Events.{Raises, IsAllowed}
use Rattle.word_rule.specs.Holder.{as_holder}
use Rattle.word_rule.specs.Rounds.{knows}
use Rattle.word_rule.specs.declared.seat.WorkSeat.{WorkSeat}

-- the seat may raise the flag of the programme at this place of the first uncommitted turn, which
-- it has just filled
pub record MayRaise (me : WorkSeat) : Type 0 where
  pub committed : ℕ
  pub place : ℕ
  pub allowed : IsAllowed (knows me).dict (knows me).core (Raises committed place)

-- a flag raised: the seat's view is the core's
pub record IsRaise (old new : WorkSeat) : Type 0 where
  pub committed : ℕ
  pub place : ℕ
  pub filled : (knows old).core.hold ≡ hold_at committed (Seated place true)
  pub view : knows new ≡ as_holder (knows old) committed (Raised place)
