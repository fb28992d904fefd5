-- A market with three stable placements, to follow by hand.
use Rattle.std.specs.Prelude.{ℕ, List, [], ◌∷◌, Option, Some, None}
use Rattle.market.specs.Examples.{prog}
use Rattle.market.specs.Problems.{Problem}

-- Three candidates list three programmes of a seat each, each beginning with another one; each
-- programme ranks worst the candidate who lists it first, and best the one who lists it last. The
-- fourth candidate lists the first programme and has the worst rank there, the fifth lists nothing,
-- and the sixth lists a programme with two seats that nobody else wants.
abbrev pub three_stable : Problem
three_stable =
    record {
      types = 3;
      programmes = prog 0 1 ∷ prog 1 1 ∷ prog 2 1 ∷ prog 0 2 ∷ [];
      lists = (0 ∷ 1 ∷ 2 ∷ []) ∷ (1 ∷ 2 ∷ 0 ∷ []) ∷ (2 ∷ 0 ∷ 1 ∷ []) ∷ (0 ∷ []) ∷ []
          ∷ (3 ∷ []) ∷ [];
      orders = (1 ∷ 2 ∷ 0 ∷ 5 ∷ 3 ∷ []) ∷ (2 ∷ 0 ∷ 1 ∷ []) ∷ (0 ∷ 1 ∷ 2 ∷ []) ∷ [];
      ranks = (1 ∷ 2 ∷ 3 ∷ 4 ∷ 5 ∷ []) ∷ (1 ∷ 2 ∷ 3 ∷ []) ∷ (1 ∷ 2 ∷ 3 ∷ []) ∷ [];
    }

-- what the three hold, and beside them the sixth candidate
abbrev pub three_hold : ℕ → ℕ → ℕ → List (Option ℕ)
three_hold first second third =
    Some first ∷ Some second ∷ Some third ∷ None ∷ None ∷ Some 3 ∷ []
