-- One programme's quota varied: what the mechanism gives with each quota.
use Rattle.std.specs.Prelude.{◌≡◌, ℕ, zero, suc, ◌+◌, ◌-◌, ◌≤◌, Bool, true, false, not, List, length, map, Option, Some, None, ◌==◌}
use Rattle.std.specs.List.{range_with_len}
use Rattle.market.specs.BaseRanks.{base_rank}
use Rattle.market.specs.Comparisons.{GivesAtLeast, IsWorstStable}
use Rattle.market.specs.Counting.{count_below, count_of}
use Rattle.market.specs.Mechanism.{mechanism_placement}
use Rattle.market.specs.Problems.{Problem, with_quota}
use Rattle.market.specs.Stability.{held_by}
use Rattle.quota_sweep.specs.declared.row.SweepRow.{SweepRow}

-- a market with some quota of p, and all else as it was
pub record IsQuotaChanged (m : Problem) (p : ℕ) (now : Problem) : Type 0 where
  pub quota : ℕ
  pub is : now ≡ with_quota m p quota

-- what the mechanism gives where programme p has this quota
unfoldable pub placed_with : Problem → ℕ → ℕ → List (Option ℕ)
placed_with m p quota = mechanism_placement (with_quota m p quota)

-- ---- who holds something else

-- whether the same is held, a programme or nothing
abbrev pub is_same : Option ℕ → Option ℕ → Bool
is_same None None = true
is_same None (Some q) = false
is_same (Some p) None = false
is_same (Some p) (Some q) = p == q

-- how many candidates hold something else than before
unfoldable pub changed_count : List (Option ℕ) → List (Option ℕ) → ℕ
changed_count before now =
    count_below (λ i. not (is_same (held_by before i) (held_by now i))) (length now)

-- the same, where there may be nothing before
abbrev pub changed_since : Option (List (Option ℕ)) → List (Option ℕ) → ℕ
changed_since None now = 0
changed_since (Some before) now = changed_count before now

-- ---- the rows

-- the row of a quota in the market with this quota, by what its mechanism gives, and what was given
-- before
abbrev pub row_of : Problem → ℕ → ℕ → Option (List (Option ℕ)) → List (Option ℕ) → SweepRow
row_of m p quota before now =
    record {
      quota = quota;
      held = count_of p now;
      base = base_rank m now p;
      changed = changed_since before now;
    }

-- what the row before the one at an index gives, where quotas rise by one from the first
abbrev pub placed_before : Problem → ℕ → ℕ → ℕ → Option (List (Option ℕ))
placed_before m p low zero = None
placed_before m p low (suc k) = Some (placed_with m p (low + k))

-- the row at an index
unfoldable pub sweep_row : Problem → ℕ → ℕ → ℕ → SweepRow
sweep_row m p low k =
    row_of (with_quota m p (low + k)) p (low + k) (placed_before m p low k)
    (placed_with m p (low + k))

-- the rows of all quotas from the one to the other
unfoldable pub sweep_rows : Problem → ℕ → ℕ → ℕ → List SweepRow
sweep_rows m p low high = map (sweep_row m p low) (range_with_len 0 (high - low + 1))

-- with each quota what the mechanism gives is stable, and in every stable placement there each
-- candidate holds the same programme or one listed higher
abbrev pub AreWorstStable : Problem → ℕ → ℕ → ℕ → Type 0
AreWorstStable m p low high =
    (quota : ℕ) → low ≤ quota → quota ≤ high
    → IsWorstStable (with_quota m p quota) (placed_with m p quota)

-- with a larger quota each candidate holds the same programme or one listed higher
abbrev pub HurtsNobody : Problem → ℕ → ℕ → ℕ → Type 0
HurtsNobody m p low high =
    (less more : ℕ) → low ≤ less → less ≤ more → more ≤ high
    → GivesAtLeast m (placed_with m p less) (placed_with m p more)
