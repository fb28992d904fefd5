-- A market with a second placement to follow by hand.
use Rattle.std.specs.Prelude.{ℕ, Bool, List, [], ◌∷◌, Option}
use Rattle.market.specs.Examples.{prog}
use Rattle.market.specs.Mechanism.{mechanism_placement}
use Rattle.market.specs.Problems.{Problem}
use Rattle.second_placement.specs.SeatsLeft.{second_problem}

-- Two programmes of one type with a seat each, and three candidates ranked 1 to 3: the first lists
-- the first programme, the second both, the third the second programme. At first the first two
-- candidates get a seat each, and the third gets none.
abbrev pub three_for_two : Problem
three_for_two =
    record {
      types = 1;
      programmes = prog 0 1 ∷ prog 0 1 ∷ [];
      lists = (0 ∷ []) ∷ (0 ∷ 1 ∷ []) ∷ (1 ∷ []) ∷ [];
      orders = (0 ∷ 1 ∷ 2 ∷ []) ∷ [];
      ranks = (1 ∷ 2 ∷ 3 ∷ []) ∷ [];
    }

-- what the mechanism gives in the market of the seats left, where these have registered for what it
-- gave first
unfoldable pub given_second : Problem → List Bool → List (Option ℕ)
given_second m registered =
    mechanism_placement (second_problem m (mechanism_placement m) registered)
