-- What the rows of a ranks file say, gathered row by row.
use Rattle.std.specs.Prelude.{◌≡◌, ℕ, ◌+◌, ◌*◌, ◌<◌, List, [], ◌∷◌, ◌++◌, length, map, slice_index_or, slice_set, filter, position, bytes_eq, ◌==◌, Bool, false, Option, Some, None}
use Rattle.record_files.specs.Rows.{Row}
use Rattle.rank_lists.specs.Groups.{candidate_group, rank_group}
use Rattle.rank_lists.specs.Rows.{candidate_in, type_in, rank_in}
use Rattle.rank_lists.specs.declared.keys.TheConstants.{NUMBERS}
use Rattle.rank_lists.specs.declared.row.Fields.{Fields}
use Rattle.rank_lists.specs.declared.rows.RankRows.{RankRows}

-- these are the fields of the row
pub record IsFieldsOf (row : Row) (fields : Fields) : Type 0 where
  pub candidate : fields.candidate ≡ candidate_in row
  pub name : fields.name ≡ type_in row
  pub rank : fields.rank ≡ rank_in row

-- the rank in a row with the number of the candidate behind it
abbrev pub row_key : Row → ℕ
row_key row = rank_in row * NUMBERS + candidate_in row

-- whether a type that may be known is this one
abbrev pub is_kind : ℕ → Option ℕ → Bool
is_kind kind None = false
is_kind kind (Some other) = other == kind

-- whether a row is of a type
abbrev pub in_kind : List (List ℕ) → ℕ → Row → Bool
in_kind names kind row = is_kind kind (position (bytes_eq (type_in row)) names)

-- the ranks that rows give in a type
abbrev pub given_in : List (List ℕ) → ℕ → List Row → List ℕ
given_in names kind rows = map row_key (filter (in_kind names kind) rows)

-- given ranks with one more, where its type is known
abbrev pub with_rank : List (List ℕ) → Option ℕ → ℕ → List (List ℕ)
with_rank given None key = given
with_rank given (Some kind) key = slice_set given kind (slice_index_or given kind [] ++ key ∷ [])

-- so many types without ranks
pub record HasNoRanks (types : ℕ) (given : List (List ℕ)) : Type 0 where
  pub types_are : length given ≡ types
  pub none : (kind : ℕ) → kind < types → slice_index_or given kind [] ≡ []

-- what these rows say was gathered
pub record HasRows (names : List (List ℕ)) (all : List Row) (gathered : RankRows) : Type 0 where
  pub candidates : gathered.candidates ≡ map candidate_group all
  pub ranks : gathered.ranks ≡ map rank_group all
  pub types : length gathered.given.items ≡ length names
  pub given : (kind : ℕ) → kind < length names
      → slice_index_or gathered.given.items kind [] ≡ given_in names kind all
