-- A market in which one further seat moves a chain of candidates, to follow by hand.
use Rattle.std.specs.Prelude.{[], ◌∷◌}
use Rattle.market.specs.Examples.{prog}
use Rattle.market.specs.Problems.{Problem}

-- Five candidates of one type, ranked 1 to 5. The first programme has no seat, the next four have
-- one each, and nobody lists the last. Each candidate lists a programme and the next one, the first
-- candidate from the first programme on, and the last candidate one programme alone. Without a seat
-- in the first programme each of the first four holds the second wish, and the fifth nothing; with
-- one seat each of the five holds the first wish.
abbrev pub chain : Problem
chain =
    record {
      types = 1;
      programmes = prog 0 0 ∷ prog 0 1 ∷ prog 0 1 ∷ prog 0 1 ∷ prog 0 1 ∷ prog 0 2 ∷ [];
      lists = (0 ∷ 1 ∷ []) ∷ (1 ∷ 2 ∷ []) ∷ (2 ∷ 3 ∷ []) ∷ (3 ∷ 4 ∷ []) ∷ (4 ∷ []) ∷ [];
      orders = (0 ∷ 1 ∷ 2 ∷ 3 ∷ 4 ∷ []) ∷ [];
      ranks = (1 ∷ 2 ∷ 3 ∷ 4 ∷ 5 ∷ []) ∷ [];
    }
