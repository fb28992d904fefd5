-- The tables that a market keeps beside its parts.
use Rattle.std.specs.Prelude.{◌≡◌, ℕ, ◌<◌, List, [], length, slice_index, slice_index_or}
use Rattle.market.specs.Problems.{Problem, place_of, order_of}
use Rattle.market.specs.LocalNumbers.{programmes_of, local_of}

-- for each candidate the turn in this order, or the order's length where there is none
pub record IsTurnTable (count : ℕ) (order table : List ℕ) : Type 0 where
  pub candidates : length table ≡ count
  pub each : (i : ℕ) → i < count → slice_index table i ≡ place_of i order

-- the turns of each type
pub record HasTurnTables (m : Problem) (turns : List (List ℕ)) : Type 0 where
  pub count : length turns ≡ m.types
  pub each : (t : ℕ) → t < m.types
      → IsTurnTable (length m.lists) (order_of m t) (slice_index_or turns t [])

-- the programmes of each type
pub record HasMembers (m : Problem) (members : List (List ℕ)) : Type 0 where
  pub count : length members ≡ m.types
  pub each : (t : ℕ) → t < m.types → slice_index_or members t [] ≡ programmes_of m t

-- the local number of each programme
pub record IsLocals (m : Problem) (locals : List ℕ) : Type 0 where
  pub count : length locals ≡ length m.programmes
  pub each : (p : ℕ) → p < length m.programmes → slice_index locals p ≡ local_of m p
