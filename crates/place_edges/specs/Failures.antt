-- What a shelf or a sink in memory was told.
use Rattle.std.specs.Prelude.{ℕ, List}

-- the numbers of the calls that are to fail, and how many calls and faults there were
pub record Told : Type 0 where
  pub failing : List ℕ
  pub calls : ℕ
  pub faults : ℕ
