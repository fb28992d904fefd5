-- The turns of one round.
use Rattle.std.specs.Prelude.{ℕ, ◌-◌, List, length, Option, None, unwrap_or, slice_index_or}
use Rattle.market.specs.Problems.{Problem, order_of}
use Rattle.market.specs.Counting.{sum_below}

-- the first turn to run of a type, or the number of turns where none is to
abbrev pub first_turn_of : Problem → List (Option ℕ) → ℕ → ℕ
first_turn_of m firsts t = unwrap_or (slice_index_or firsts t None) (length (order_of m t))

-- the turns to run of all types
unfoldable pub run_turns : Problem → List (Option ℕ) → ℕ
run_turns m firsts = sum_below (λ t. length (order_of m t) - first_turn_of m firsts t) m.types
