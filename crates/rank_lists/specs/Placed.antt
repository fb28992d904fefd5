-- Numbers with their places behind them.
use Rattle.std.specs.Prelude.{◌≡◌, ℕ, ◌%◌, ◌<◌, ◌≤◌, List, length, slice_index}
use Rattle.rank_lists.specs.declared.keys.TheConstants.{PLACES}

-- the low part of each number is its place in the list
pub record HasPlaces (placed : List ℕ) : Type 0 where
  pub few : length placed ≤ PLACES
  pub places : (k : ℕ) → k < length placed → slice_index placed k % PLACES ≡ k
