-- Numbers that stand twice in a list.
use Rattle.std.specs.Prelude.{◌≡◌, ◌≢◌, ℕ, ◌+◌, ◌/◌, ◌%◌, ◌<◌, ◌≤◌, List, length, slice_index, nat_le, if◌then◌else◌, Option, Some, None}
use Rattle.rank_lists.specs.declared.keys.TheConstants.{PLACES}
use Rattle.rank_lists.specs.declared.repeats.Repeat.{Repeat}

-- no number among the first ones repeats an earlier one
abbrev pub HasNoRepeat : List ℕ → ℕ → Type 0
HasNoRepeat xs n = (i j : ℕ) → i < j → j < n → slice_index xs i ≢ slice_index xs j

-- the number at the later place is the first that repeats an earlier one, which stands at the other
pub record IsFirstRepeat (xs : List ℕ) (earlier later : ℕ) : Type 0 where
  pub order : earlier < later
  pub within : later < length xs
  pub same : slice_index xs earlier ≡ slice_index xs later
  pub first : HasNoRepeat xs later

-- two neighbours, each a number with its place behind it, have the same number
abbrev pub IsPair : List ℕ → ℕ → Type 0
IsPair sorted k = slice_index sorted k / PLACES ≡ slice_index sorted (k + 1) / PLACES

-- a repeat is one of the pairs of neighbours, and no pair has a lesser later place
pub record IsLeastOfPairs (sorted : List ℕ) (n : ℕ) (r : Repeat) : Type 0 where
  pub at : ℕ
  pub inside : at + 1 < n
  pub pair : IsPair sorted at
  pub earlier : r.earlier ≡ slice_index sorted at % PLACES
  pub later : r.later ≡ slice_index sorted (at + 1) % PLACES
  pub least : (k : ℕ) → k + 1 < n → IsPair sorted k
      → r.later ≤ slice_index sorted (k + 1) % PLACES

-- the pair whose later place is least, if there is a pair among the first ones
abbrev pub IsLeastPair : List ℕ → ℕ → Option Repeat → Type 0
IsLeastPair sorted n None = (k : ℕ) → k + 1 < n → IsPair sorted k → ⊥
IsLeastPair sorted n (Some r) = IsLeastOfPairs sorted n r

-- the one whose later place is less
abbrev pub earlier_repeat : Option Repeat → Repeat → Repeat
earlier_repeat None other = other
earlier_repeat (Some least) other = if nat_le least.later other.later then least else other

-- no two neighbours among the first numbers are equal
abbrev pub HasUnequalNeighbours : List ℕ → ℕ → Type 0
HasUnequalNeighbours sorted n =
    (k : ℕ) → k + 1 < n → slice_index sorted k ≢ slice_index sorted (k + 1)
