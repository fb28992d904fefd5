-- The files of the system.
use Rattle.std.specs.Prelude.{ℕ}

-- how many calls failed, and how many bytes were given
pub record Counts : Type 0 where
  pub faults : ℕ
  pub tally : ℕ
