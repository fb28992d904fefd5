-- Who may hold what in the expanded market, and what stable placements give there.
use Rattle.std.specs.Prelude.{◌≡◌, ◌↔◌, ℕ, ◌<◌, List, length, IsTrue, Option, Some}
use Rattle.market.specs.Counting.{count_of}
use Rattle.market.specs.Problems.{Problem, IsAcceptable, kind_of, quota_of, rank_of}
use Rattle.market.specs.Stability.{held_by, IsBetter}
use Rattle.reserved_seats.specs.declared.offers.Offer.{Offer}
use Rattle.reserved_seats.specs.Offers.{general, reserved, index_of}
use Rattle.reserved_seats.specs.Reservations.{Reservation, is_marked}
use Rattle.reserved_seats.specs.Expansion.{expanded}

-- the seats of an offer are acceptable to a candidate of the expanded market
abbrev pub IsAcceptableOffer : Problem → Reservation → ℕ → Offer → Type 0
IsAcceptableOffer m r i offer =
    IsAcceptable (expanded m r) i (index_of (length m.programmes) offer)

-- the general seats of a programme are acceptable to a candidate exactly where the programme is in
-- the market itself, and its reserved seats exactly where the candidate is marked as well
pub record AreAcceptableOffers (m : Problem) (r : Reservation) : Type 0 where
  pub of_all : (i p : ℕ) → i < length m.lists → p < length m.programmes
      → IsAcceptableOffer m r i (general p) ↔ IsAcceptable m i p
  pub of_marked : (i p : ℕ) → i < length m.lists → p < length m.programmes
      → IsAcceptableOffer m r i (reserved p) ↔ (IsTrue (is_marked r.marked i) × IsAcceptable m i p)

-- the general seats of p are all held, each by a candidate with a better rank than i
pub record HasNoGeneralSeat (m : Problem) (held : List (Option ℕ)) (i p : ℕ) : Type 0 where
  pub full : count_of p held ≡ quota_of m p
  pub better : (j : ℕ) → held_by held j ≡ Some p
      → IsBetter (rank_of m (kind_of m p) j) (rank_of m (kind_of m p) i)

-- who holds a reserved seat is marked, and could get no general seat of the same programme
pub record HoldReservedLast (m : Problem) (r : Reservation) (held : List (Option ℕ)) : Type 0 where
  pub marked : (i p : ℕ) → p < length m.programmes
      → held_by held i ≡ Some (index_of (length m.programmes) (reserved p))
      → IsTrue (is_marked r.marked i)
  pub general_full : (i p : ℕ) → p < length m.programmes
      → held_by held i ≡ Some (index_of (length m.programmes) (reserved p))
      → HasNoGeneralSeat m held i p
