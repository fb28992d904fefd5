-- The base ranks and the numbers of holders of a placement, programme by programme.
use Rattle.std.specs.Prelude.{◌≡◌, ◌↔◌, ℕ, ◌<◌, List, length, Option, Some, None, slice_index, slice_index_or}
use Rattle.market.specs.Counting.{count_of}
use Rattle.market.specs.Problems.{Problem, IsAcceptable}
use Rattle.market.specs.BaseRanks.{base_rank}
use Rattle.market.specs.Stability.{held_by}

-- for each programme its base rank or none, and its number of holders
pub record BaseTable : Type 0 where
  pub bases : List (Option ℕ)
  pub held : List ℕ

-- the base rank that a table has for a programme
abbrev pub base_of : BaseTable → ℕ → Option ℕ
base_of table p = slice_index_or table.bases p None

-- the number of holders that a table has for a programme
abbrev pub holder_count : BaseTable → ℕ → ℕ
holder_count table p = slice_index table.held p

-- the table of this placement in this market
pub record IsBaseTable (m : Problem) (held : List (Option ℕ)) (table : BaseTable) : Type 0 where
  pub base_count : length table.bases ≡ length m.programmes
  pub held_count : length table.held ≡ length m.programmes
  pub bases : (p : ℕ) → p < length m.programmes → base_of table p ≡ base_rank m held p
  pub holders : (p : ℕ) → p < length m.programmes → holder_count table p ≡ count_of p held

-- each held programme is one of the market
abbrev pub HoldsProgrammes : Problem → List (Option ℕ) → Type 0
HoldsProgrammes m held = (i p : ℕ) → held_by held i ≡ Some p → p < length m.programmes

-- each held programme is acceptable to its holder
abbrev pub HoldsAcceptable : Problem → List (Option ℕ) → Type 0
HoldsAcceptable m held = (i p : ℕ) → held_by held i ≡ Some p → IsAcceptable m i p

-- exactly the programmes that nobody holds have no base rank
abbrev pub IsNoneWhereUnheld : Problem → BaseTable → Type 0
IsNoneWhereUnheld m table =
    (p : ℕ) → p < length m.programmes → (base_of table p ≡ None) ↔ (holder_count table p ≡ 0)
