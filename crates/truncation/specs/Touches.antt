-- What the cuts of a round have touched, and who can be cut at all.
use Rattle.std.specs.Prelude.{ℕ, Bool, false, List, Option, slice_index_or}

pub record Touches : Type 0 where
  -- how many candidates were cut
  pub several : ℕ
  -- for each type the first turn whose choice was cut away, or none
  pub first : List (Option ℕ)

-- whether a candidate is marked
abbrev pub is_marked : List Bool → ℕ → Bool
is_marked marked i = slice_index_or marked i false
