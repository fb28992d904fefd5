-- The expanded market: programmes with two kinds of seats, and lists of offers.
use Rattle.std.specs.Prelude.{◌≡◌, ℕ, ◌<◌, ◌≤◌, Bool, List, [], ◌++◌, length, map, slice_index, slice_index_or}
use Rattle.std.specs.List.{flat_map, range_with_len}
use Rattle.place_base.specs.declared.limits.TheConstants.{MOST_PROGRAMMES, MOST_ENTRIES}
use Rattle.market.specs.declared.programme.Prog.{Prog}
use Rattle.market.specs.declared.parts.MarketParts.{MarketParts}
use Rattle.market.specs.Problems.{Problem, list_of, no_programme, problem}
use Rattle.reserved_seats.specs.Offers.{index_of, offers_of}
use Rattle.reserved_seats.specs.Reservations.{Reservation, is_marked}

-- the reserved seats of a programme, as a programme: of its type, with its bar
abbrev pub reserved_programme : Prog → ℕ → Prog
reserved_programme programme seats = record programme { quota = seats }

-- the programmes with their general seats, and behind them all the same with their reserved seats
abbrev pub both_kinds : List Prog → List ℕ → List Prog
both_kinds programmes seats =
    programmes
    ++ map
    (λ p. reserved_programme (slice_index_or programmes p no_programme) (slice_index seats p))
    (range_with_len 0 (length programmes))

-- a preference list of rows as one of offers: of each row its general seats, and for a marked
-- candidate just after them its reserved ones
abbrev pub offered_list : ℕ → Bool → List ℕ → List ℕ
offered_list rows marked list = map (index_of rows) (flat_map (offers_of marked) list)

-- that list of each candidate
abbrev pub offered_lists : ℕ → List Bool → List (List ℕ) → List (List ℕ)
offered_lists rows marked lists =
    map (λ i. offered_list rows (is_marked marked i) (slice_index_or lists i []))
    (range_with_len 0 (length lists))

-- the expanded market: its programmes and its lists are those of offers; its types, its turn orders
-- and its ranks are the market's
unfoldable pub expanded : Problem → Reservation → Problem
expanded m r =
    record m {
      programmes = both_kinds m.programmes r.seats;
      lists = offered_lists (length m.programmes) r.marked m.lists;
    }

-- the market that is made of these parts
abbrev pub problem_of : MarketParts → Problem
problem_of parts =
    problem parts.types parts.programmes.items parts.lists.items parts.orders.items
    parts.ranks.items

-- at most as many entries as a list of a file has, each of them a row
pub record IsListOf (rows : ℕ) (list : List ℕ) : Type 0 where
  pub few : length list ≤ MOST_ENTRIES
  pub within : (k : ℕ) → k < length list → slice_index list k < rows

-- the reservation has a number for each programme and a mark for each candidate of the market,
-- which is no larger than files make it
pub record FitsMarket (m : Problem) (r : Reservation) : Type 0 where
  pub seats : length r.seats ≡ length m.programmes
  pub marked : length r.marked ≡ length m.lists
  pub programmes : length m.programmes ≤ MOST_PROGRAMMES
  pub entries : (i : ℕ) → i < length m.lists → length (list_of m i) ≤ MOST_ENTRIES
