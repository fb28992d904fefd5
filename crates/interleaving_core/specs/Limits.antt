-- The limits in numbers.
use Rattle.std.specs.Prelude.{◌≡◌}
use Rattle.interleaving_core.specs.declared.limits.TheConstants.{FLAGS_PER_WORD, MAX_WORKERS}

-- the most workers, and how many flags a word has
pub record HasLimits : Type 0 where
  pub workers : MAX_WORKERS ≡ 64
  pub flags : FLAGS_PER_WORD ≡ 64
