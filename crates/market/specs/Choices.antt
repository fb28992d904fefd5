-- What each candidate has chosen in each type, kept in a table with a row for each type.
use Rattle.std.specs.Prelude.{◌≡◌, ℕ, ◌+◌, ◌-◌, ◌^◌, ◌<◌, List, [], map, length, replicate, Option, Some, None, ◌==◌, if◌then◌else◌, slice_get, slice_index, slice_index_or}
use Rattle.std.specs.List.{range_with_len}
use Rattle.market.specs.Problems.{Problem, place_of, kind_of, list_of, order_of, turn_of}
use Rattle.market.specs.Mechanism.{tentative, best_in}

-- what a table has for a type and a candidate
abbrev pub held_in_table : List (List (Option ℕ)) → ℕ → ℕ → Option ℕ
held_in_table table t i = slice_index_or (slice_index_or table t []) i None

-- the table with no choice anywhere
unfoldable pub empty_table : Problem → List (List (Option ℕ))
empty_table m = replicate m.types (replicate (length m.lists) None)

-- one row for each type, with an entry for each candidate
pub record IsChoiceTable (m : Problem) (table : List (List (Option ℕ))) : Type 0 where
  pub types : length table ≡ m.types
  pub candidates : (t : ℕ) → t < m.types → length (slice_index_or table t []) ≡ length m.lists

-- the table of one round: the tentative programmes under the cuts
pub record IsRound (m : Problem) (cuts : List ℕ) (table : List (List (Option ℕ))) : Type 0 where
  pub types : length table ≡ m.types
  pub candidates : (t : ℕ) → t < m.types → length (slice_index_or table t []) ≡ length m.lists
  pub each : (t i : ℕ) → t < m.types → i < length m.lists
      → slice_index_or (slice_index_or table t []) i None ≡ tentative m cuts t i

-- a choice kept in one number: 0 for none, and else the programme and one more
abbrev pub decode : ℕ → Option ℕ
decode n = if n == 0 then None else Some (n - 1)

-- a choice that fits in such a number, as each programme of a market does
abbrev pub FitsNumber : Option ℕ → Type 0
FitsNumber None = Unit {0}
FitsNumber (Some p) = p + 1 < 2 ^ 32

-- each choice is a programme of its type, of a candidate who has a turn in it, and stands within
-- the candidate's cut
pub record IsWithinCuts (m : Problem) (table : List (List (Option ℕ))) (cuts : List ℕ) : Type 0
  where
    pub kind : (t i p : ℕ) → held_in_table table t i ≡ Some p → kind_of m p ≡ t
    pub turn : (t i p : ℕ) → held_in_table table t i ≡ Some p
        → turn_of m t i < length (order_of m t)
    pub within : (t i p : ℕ) → held_in_table table t i ≡ Some p
        → place_of p (list_of m i) < slice_index cuts i

-- the best choice of each candidate
unfoldable pub best_programmes_in : Problem → (ℕ → ℕ → Option ℕ) → List (Option ℕ)
best_programmes_in m c =
    map (λ i. slice_get (list_of m i) (best_in m c i)) (range_with_len 0 (length m.lists))
