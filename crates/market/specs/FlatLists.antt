-- Lists that lie one after another in one list, with the bounds between them.
use Rattle.std.specs.Prelude.{◌≡◌, ℕ, ◌+◌, ◌-◌, ◌<◌, ◌≤◌, List, [], length, map, take, drop, slice_index, slice_index_or}
use Rattle.std.specs.List.{range_with_len}

-- what lies between bound k and the next
unfoldable pub between : List ℕ → List ℕ → ℕ → List ℕ
between items bounds k =
    take (slice_index bounds (k + 1) - slice_index bounds k) (drop (slice_index bounds k) items)

-- the lists, one fewer than the bounds
unfoldable pub flat_lists : List ℕ → List ℕ → List (List ℕ)
flat_lists items bounds = map (between items bounds) (range_with_len 0 (length bounds - 1))

-- the items and bounds hold these lists
pub record IsFlat (items bounds : List ℕ) (lists : List (List ℕ)) : Type 0 where
  pub count : length bounds ≡ length lists + 1
  pub last : slice_index bounds (length lists) ≡ length items
  pub rising : (k : ℕ) → k < length lists → slice_index bounds k ≤ slice_index bounds (k + 1)
  pub within : (k : ℕ) → k ≤ length lists → slice_index bounds k ≤ length items
  pub each : (k : ℕ) → k < length lists → between items bounds k ≡ slice_index_or lists k []
