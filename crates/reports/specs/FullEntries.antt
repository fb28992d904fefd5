-- What is known of a list entry whose programme is full.
use Rattle.std.specs.Prelude.{◌≡◌, ℕ, ◌<◌, List, length, Option, Some}
use Rattle.market.specs.Counting.{count_of}
use Rattle.market.specs.Problems.{Problem, kind_of, quota_of, list_of, rank_of}
use Rattle.market.specs.Stability.{held_by, IsBetter}
use Rattle.reports.specs.Reasons.{entry_at, reason_of}
use Rattle.reports.specs.declared.reasons.Reason.TheVariants.{Full}

-- programme p has as many holders as its quota, and each has a better rank in its type than
-- candidate i
pub record IsFilledByBetter (m : Problem) (held : List (Option ℕ)) (i p : ℕ) : Type 0 where
  pub full : count_of p held ≡ quota_of m p
  pub better : (j : ℕ) → held_by held j ≡ Some p
      → IsBetter (rank_of m (kind_of m p) j) (rank_of m (kind_of m p) i)

-- each list entry whose reason is that its programme is full is so
abbrev pub FullMeansFilled : Problem → List (Option ℕ) → Type 0
FullMeansFilled m held =
    (i place : ℕ) (base : Option ℕ) → place < length (list_of m i)
    → reason_of m held i place ≡ Full base → IsFilledByBetter m held i (entry_at m i place)
