-- What two placements share, and who holds a programme in one of them alone.
use Rattle.std.specs.Prelude.{◌≡◌, ◌↔◌, ℕ, List, Option, Some, None}
use Rattle.market.specs.Counting.{count_of}
use Rattle.market.specs.Problems.{Problem, kind_of, rank_of}
use Rattle.market.specs.Stability.{held_by, IsBetter}

-- the same candidates hold nothing, and each programme has as many holders
pub record FillsAlike (given other : List (Option ℕ)) : Type 0 where
  pub unplaced : (i : ℕ) → (held_by given i ≡ None) ↔ (held_by other i ≡ None)
  pub holders : (p : ℕ) → count_of p other ≡ count_of p given

-- candidate i holds programme p in the first placement and not in the second
pub record HoldsOnlyIn (given other : List (Option ℕ)) (i p : ℕ) : Type 0 where
  pub holds : held_by given i ≡ Some p
  pub not_there : held_by other i ≡ Some p → ⊥

-- each candidate who holds a programme in the first placement alone has a better rank in its type
-- than each who holds it in the second alone
abbrev pub HasBetterHolders : Problem → List (Option ℕ) → List (Option ℕ) → Type 0
HasBetterHolders m given other =
    (p i j : ℕ) → HoldsOnlyIn given other i p → HoldsOnlyIn other given j p
    → IsBetter (rank_of m (kind_of m p) i) (rank_of m (kind_of m p) j)
