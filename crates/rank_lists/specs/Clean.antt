-- A file that has no fault and ranks known candidates in known types alone: its turn orders from
-- the ranks given in each type.
use Rattle.std.specs.Prelude.{◌≡◌, ◌<◌, ◌+◌, ◌*◌, ◌%◌, ℕ, List, [], All, IfOk, IfSome, IsSome, None, Option, Result, false, length, map, nat_eq, position, slice_index_or}
use Rattle.std.specs.List.{flat_map}
use Rattle.market.specs.Problems.{HasNoRepeats}
use Rattle.record_files.specs.Rows.{Row}
use Rattle.rank_lists.specs.Repeats.{HasUnequalNeighbours}
use Rattle.rank_lists.specs.Rows.{ranks_fault}
use Rattle.rank_lists.specs.Table.{IsSound, Standing, in_type, ranks_table, standing_in, standings}
use Rattle.rank_lists.specs.Turns.{AreTurns}
use Rattle.rank_lists.specs.declared.keys.TheConstants.{INDEXES}
use Rattle.rank_lists.specs.declared.part_ranks.PartRanks.{PartRanks}
use Rattle.rank_lists.specs.declared.turns.Turns.{Turns}

-- a rank with its candidate behind it
abbrev pub standing_key : Standing → ℕ
standing_key s = s.rank * INDEXES + s.candidate

-- the standings that rows give in each type are in a table, which knows whether there are others
pub record HasStandings (names : List (List ℕ)) (numbers : List ℕ) (rows : List Row)
    (table : PartRanks) : Type 0 where
  pub types : length table.given.items ≡ length names
  pub given : (kind : ℕ) → kind < length names → slice_index_or table.given.items kind []
      ≡ map standing_key (in_type kind (standings names numbers rows))
  pub known : table.unknown ≡ false → All (λ row. IsSome (standing_in names numbers row)) rows
  pub last : table.index ≡ position (nat_eq table.number) numbers

-- the turns of keys in which no candidate and no rank stands twice
pub record AreCleanTurns (keys order ranks : List ℕ) : Type 0 where
  pub turns : AreTurns keys order ranks
  pub candidates : HasNoRepeats (map (λ key. key % INDEXES) keys)
  pub differ : HasUnequalNeighbours ranks (length ranks)

-- the ranks that parts give in a type
abbrev pub keys_in : ℕ → List PartRanks → List ℕ
keys_in kind parts = flat_map (λ part. slice_index_or part.given.items kind []) parts

-- the turns of each of so many types
pub record AreAllCleanTurns (types : ℕ) (parts : List PartRanks) (orders ranks : List (List ℕ))
    : Type 0 where
  pub orders_size : length orders ≡ types
  pub ranks_size : length ranks ≡ types
  pub turns : (kind : ℕ) → kind < types → AreCleanTurns (keys_in kind parts)
      (slice_index_or orders kind []) (slice_index_or ranks kind [])

-- a file without a fault, of which these are the turn orders and ranks
pub record IsCleanFile (names : List (List ℕ)) (numbers : List ℕ) (bytes : List ℕ)
    (orders ranks : List (List ℕ)) : Type 0 where
  pub fault : ranks_fault bytes ≡ None
  pub orders_are : orders ≡ (ranks_table names numbers bytes).orders
  pub ranks_are : ranks ≡ (ranks_table names numbers bytes).ranks
  pub sound : IsSound (ranks_table names numbers bytes)

-- the turns of a type, where memory was not refused and none stands twice
abbrev pub AreTurnsRead : {E : Type 0} → List ℕ → Result (Option Turns) E → Type 0
AreTurnsRead keys turns =
    IfOk turns (λ read. IfSome read (λ turns. AreCleanTurns keys turns.order turns.ranks))

-- the same of each of so many types
pub record AreEachRead {E : Type 0} (types : ℕ) (parts : List PartRanks)
    (turns : List (Result (Option Turns) E)) : Type 0 where
  pub size : length turns ≡ types
  pub each : (kind : ℕ) (d : Result (Option Turns) E) → kind < types
      → AreTurnsRead (keys_in kind parts) (slice_index_or turns kind d)
