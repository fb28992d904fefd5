-- How many seats are reserved, and for whom.
use Rattle.std.specs.Prelude.{ℕ, ◌<◌, ◌≤◌, Bool, false, List, length, slice_index, slice_index_or}
use Rattle.market.specs.declared.limits.TheConstants.{MAX_QUOTA}

-- for each programme its reserved seats, and for each candidate whether the candidate is marked
pub record Reservation : Type 0 where
  pub seats : List ℕ
  pub marked : List Bool

-- no programme has more reserved seats than a quota may have
abbrev pub AreWithinQuota : List ℕ → Type 0
AreWithinQuota seats = (p : ℕ) → p < length seats → slice_index seats p ≤ MAX_QUOTA

-- whether a candidate is marked
abbrev pub is_marked : List Bool → ℕ → Bool
is_marked marked i = slice_index_or marked i false
