-- The turn orders and ranks that the rows of a ranks file give.
use Rattle.std.specs.Prelude.{◌≡◌, ◌<◌, ◌≤◌, ℕ, List, [], ◌==◌, count_by, find, nat_lt, nat_eq, bytes_eq, length, map, filter, position, slice_get, slice_index, slice_index_or, Option, Some, None}
use Rattle.std.specs.List.{filter_map, range_with_len, position_or_len}
use Rattle.market.specs.Problems.{HasNoRepeats}
use Rattle.place_base.specs.declared.limits.TheConstants.{LARGEST_RANK}
use Rattle.record_files.specs.Rows.{Row, data_rows}
use Rattle.rank_lists.specs.Rows.{candidate_in, type_in, rank_in}

-- the rank of a candidate in a type, both as indexes
pub record Standing : Type 0 where
  pub kind : ℕ
  pub candidate : ℕ
  pub rank : ℕ

-- the standing of a known candidate in a known type
abbrev pub standing_of : Option ℕ → Option ℕ → ℕ → Option Standing
standing_of None candidate rank = None
standing_of (Some kind) None rank = None
standing_of (Some kind) (Some candidate) rank =
    Some (record { kind = kind; candidate = candidate; rank = rank })

-- the standing that a row gives, where its type and its candidate are known
abbrev pub standing_in : List (List ℕ) → List ℕ → Row → Option Standing
standing_in names numbers row =
    standing_of (position (bytes_eq (type_in row)) names)
    (position (nat_eq (candidate_in row)) numbers)
    (rank_in row)

-- the standings that the rows give
abbrev pub standings : List (List ℕ) → List ℕ → List Row → List Standing
standings names numbers rows = filter_map (standing_in names numbers) rows

-- those of one type
abbrev pub in_type : ℕ → List Standing → List Standing
in_type kind all = filter (λ s. s.kind == kind) all

-- how many of some standings have a better rank than one
abbrev pub better_count : List Standing → Standing → ℕ
better_count all s = count_by (λ other. nat_lt other.rank s.rank) all

-- the standing of a turn: the one that has so many better ones
abbrev pub turn_in : List Standing → ℕ → Option Standing
turn_in all turn = find (λ s. better_count all s == turn) all

-- the standings by rising rank: those of all turns, one after the other
abbrev pub by_rank : List Standing → List Standing
by_rank all = filter_map (turn_in all) (range_with_len 0 (length all))

-- the turn order of each type, best rank first, with the ranks beside it, and how many candidates
-- there are
pub record RankTable : Type 0 where
  pub candidates : ℕ
  pub orders : List (List ℕ)
  pub ranks : List (List ℕ)

-- a table of its parts
abbrev pub table_with : ℕ → List (List ℕ) → List (List ℕ) → RankTable
table_with candidates orders ranks =
    record { candidates = candidates; orders = orders; ranks = ranks }

-- the candidates with a rank in a type, by rising rank
abbrev pub turns_of : List Standing → ℕ → List ℕ
turns_of all kind = map (λ s. s.candidate) (by_rank (in_type kind all))

-- their ranks
abbrev pub ranks_of : List Standing → ℕ → List ℕ
ranks_of all kind = map (λ s. s.rank) (by_rank (in_type kind all))

-- the table of standings in so many types of so many candidates
abbrev pub table_of : ℕ → ℕ → List Standing → RankTable
table_of types candidates all = record {
  candidates = candidates;
  orders = map (turns_of all) (range_with_len 0 types);
  ranks = map (ranks_of all) (range_with_len 0 types);
}

-- the table of a ranks file beside the names of the types and the numbers of the candidates
abbrev pub ranks_table : List (List ℕ) → List ℕ → List ℕ → RankTable
ranks_table names numbers bytes =
    table_of (length names) (length numbers) (standings names numbers (data_rows bytes))

-- the turn order of a type in a table
abbrev pub order_at : RankTable → ℕ → List ℕ
order_at table kind = slice_index_or table.orders kind []

-- the ranks of a type in a table, in its turn order
abbrev pub ranks_at : RankTable → ℕ → List ℕ
ranks_at table kind = slice_index_or table.ranks kind []

-- the rank of a candidate in a type, or none
abbrev pub rank_at : RankTable → ℕ → ℕ → Option ℕ
rank_at table kind candidate =
    slice_get (ranks_at table kind)
    (position_or_len (λ other. other == candidate) (order_at table kind))

-- the orders hold distinct candidates, and the ranks beside them rise strictly within their limits
pub record IsSound (table : RankTable) : Type 0 where
  pub types : length table.ranks ≡ length table.orders
  pub beside : (kind : ℕ) → kind < length table.orders
      → length (ranks_at table kind) ≡ length (order_at table kind)
  pub entries : (kind k : ℕ) → kind < length table.orders → k < length (order_at table kind)
      → slice_index (order_at table kind) k < table.candidates
  pub distinct : (kind : ℕ) → kind < length table.orders → HasNoRepeats (order_at table kind)
  pub rise : (kind j k : ℕ) → kind < length table.orders → j < k → k < length (ranks_at table kind)
      → slice_index (ranks_at table kind) j < slice_index (ranks_at table kind) k
  pub limits : (kind k : ℕ) → kind < length table.orders → k < length (ranks_at table kind)
      → (1 ≤ slice_index (ranks_at table kind) k)
      × (slice_index (ranks_at table kind) k ≤ LARGEST_RANK)
