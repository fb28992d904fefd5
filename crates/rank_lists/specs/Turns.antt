-- Turn orders sorted from given ranks.
use Rattle.std.specs.Prelude.{◌≡◌, ℕ, ◌+◌, ◌*◌, ◌/◌, ◌%◌, Option, option_map, position, nat_eq, ◌≤◌, ◌<◌, List, [], length, map, slice_index, slice_index_or, IsPermutation}
use Rattle.std.specs.List.{filter_map}
use Rattle.rank_lists.specs.declared.keys.TheConstants.{INDEXES, NUMBERS}

-- a rank with the index of a known candidate behind it, in place of the number
abbrev pub known_key : List ℕ → ℕ → Option ℕ
known_key numbers key =
    option_map (λ index. key / NUMBERS * INDEXES + index)
    (position (nat_eq (key % NUMBERS)) numbers)

-- the keys of known candidates
abbrev pub known_keys : List ℕ → List ℕ → List ℕ
known_keys numbers keys = filter_map (known_key numbers) keys

-- the candidates and the ranks of keys, which were sorted
pub record AreTurns (keys order ranks : List ℕ) : Type 0 where
  pub sorted : List ℕ
  pub permutation : IsPermutation keys sorted
  pub rises : (i j : ℕ) → i ≤ j → j < length sorted → slice_index sorted i ≤ slice_index sorted j
  pub order_is : order ≡ map (λ key. key % INDEXES) sorted
  pub ranks_are : ranks ≡ map (λ key. key / INDEXES) sorted

-- the same of each type
pub record AreAllTurns (numbers : List ℕ) (given orders ranks : List (List ℕ)) : Type 0 where
  pub orders_size : length orders ≡ length given
  pub ranks_size : length ranks ≡ length given
  pub turns : (kind : ℕ) → kind < length given
      → AreTurns (known_keys numbers (slice_index_or given kind []))
      (slice_index_or orders kind []) (slice_index_or ranks kind [])
