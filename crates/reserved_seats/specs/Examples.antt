-- Small markets with reserved seats, to follow by hand.
use Rattle.std.specs.Prelude.{ℕ, List, true, false, [], ◌∷◌}
use Rattle.market.specs.Examples.{prog}
use Rattle.market.specs.Problems.{Problem}
use Rattle.reserved_seats.specs.Reservations.{Reservation}

-- one programme with a seat, which three candidates want, with ranks 1 to 3 in this turn order
abbrev pub one_programme : List ℕ → Problem
one_programme order =
    record {
      types = 1;
      programmes = prog 0 1 ∷ [];
      lists = (0 ∷ []) ∷ (0 ∷ []) ∷ (0 ∷ []) ∷ [];
      orders = order ∷ [];
      ranks = (1 ∷ 2 ∷ 3 ∷ []) ∷ [];
    }

-- a reserved seat beside it, for the third candidate
abbrev pub third_marked : Reservation
third_marked = record { seats = 1 ∷ []; marked = false ∷ false ∷ true ∷ [] }

-- two programmes of two types with a seat each; the first candidate is best in both types and wants
-- both, the second wants the second one
abbrev pub two_wishes : Problem
two_wishes =
    record {
      types = 2;
      programmes = prog 0 1 ∷ prog 1 1 ∷ [];
      lists = (0 ∷ 1 ∷ []) ∷ (1 ∷ []) ∷ [];
      orders = (0 ∷ []) ∷ (0 ∷ 1 ∷ []) ∷ [];
      ranks = (1 ∷ []) ∷ (1 ∷ 2 ∷ []) ∷ [];
    }

-- a reserved seat beside the first programme, for the first candidate
abbrev pub first_marked : Reservation
first_marked = record { seats = 1 ∷ 0 ∷ []; marked = true ∷ false ∷ [] }
