-- A placement problem as lists and numbers. Candidates, programmes and score types are indexes.
use Rattle.std.specs.Prelude.{◌≡◌, ℕ, ◌<◌, ◌≤◌, Bool, true, false, List, [], length, Option, Some, None, IsTrue, nat_le, ◌==◌, slice_get, slice_index, slice_index_or, slice_set}
use Rattle.std.specs.List.{position_or_len}
use Rattle.market.specs.declared.programme.Prog.{Prog}
use Rattle.market.specs.declared.limits.TheConstants.{MAX_TYPES, MAX_PROGRAMMES, MAX_CANDIDATES, MAX_ENTRIES, MAX_QUOTA, MAX_RANK}

-- a market as its parts
pub record Problem : Type 0 where
  -- how many score types there are
  pub types : ℕ
  -- the score type, the quota and the rank bar of each programme
  pub programmes : List Prog
  -- the preference list of each candidate: programmes, best first
  pub lists : List (List ℕ)
  -- the turn order of each type: the candidates who have a rank in it, best rank first
  pub orders : List (List ℕ)
  -- the ranks of each type, in its turn order
  pub ranks : List (List ℕ)

-- the problem of these parts
abbrev pub problem : ℕ → List Prog → List (List ℕ) → List (List ℕ) → List (List ℕ) → Problem
problem types programmes lists orders ranks = record {
  types = types;
  programmes = programmes;
  lists = lists;
  orders = orders;
  ranks = ranks;
}

-- no two entries are equal
abbrev pub HasNoRepeats : List ℕ → Type 0
HasNoRepeats xs = (i j : ℕ) → i < j → j < length xs → slice_index xs i ≡ slice_index xs j → ⊥

-- the first place of x in the list, or the list's length where it is not there
abbrev pub place_of : ℕ → List ℕ → ℕ
place_of x xs = position_or_len (λ y. y == x) xs

-- what is read where there is no programme
abbrev pub no_programme : Prog
no_programme = record { kind = 0; quota = 0; bar = None }

-- a programme by its index
abbrev pub programme_at : Problem → ℕ → Prog
programme_at m p = slice_index_or m.programmes p no_programme

-- the type of a programme in a list of programmes
abbrev pub kind_in : List Prog → ℕ → ℕ
kind_in programmes p = (slice_index_or programmes p no_programme).kind

-- the score type of a programme
unfoldable pub kind_of : Problem → ℕ → ℕ
kind_of m p = kind_in m.programmes p

-- the quota of a programme: how many seats it has
unfoldable pub quota_of : Problem → ℕ → ℕ
quota_of m p = (programme_at m p).quota

-- the rank bar of a programme: the worst rank that it admits, or none
unfoldable pub bar_of : Problem → ℕ → Option ℕ
bar_of m p = (programme_at m p).bar

-- the preference list of a candidate
unfoldable pub list_of : Problem → ℕ → List ℕ
list_of m i = slice_index_or m.lists i []

-- the turn order of a type
unfoldable pub order_of : Problem → ℕ → List ℕ
order_of m t = slice_index_or m.orders t []

-- the ranks of a type, in its turn order
unfoldable pub ranks_of : Problem → ℕ → List ℕ
ranks_of m t = slice_index_or m.ranks t []

-- the turn of a candidate in a type, or the number of turns where the candidate has no rank in it
unfoldable pub turn_of : Problem → ℕ → ℕ → ℕ
turn_of m t i = place_of i (order_of m t)

-- the rank of a candidate in a type, or none
unfoldable pub rank_of : Problem → ℕ → ℕ → Option ℕ
rank_of m t i = slice_get (ranks_of m t) (turn_of m t i)

-- the same market but for one quota
unfoldable pub with_quota : Problem → ℕ → ℕ → Problem
with_quota m p quota =
    record m {
      programmes = slice_set m.programmes p (record (programme_at m p) { quota = quota });
    }

-- whether a rank is at most the bar; without a bar each rank is
abbrev pub is_within_bar : Option ℕ → ℕ → Bool
is_within_bar None rank = true
is_within_bar (Some bar) rank = nat_le rank bar

-- whether a programme with this bar admits a candidate with this rank in its type
abbrev pub admits_rank : Option ℕ → Option ℕ → Bool
admits_rank bar None = false
admits_rank bar (Some rank) = is_within_bar bar rank

-- whether the programme admits the candidate at all: the candidate has a rank in its type, and that
-- rank is at most the bar where there is one
unfoldable pub admits : Problem → ℕ → ℕ → Bool
admits m p i = admits_rank (bar_of m p) (rank_of m (kind_of m p) i)

-- the programme is acceptable to the candidate: listed, and admitting the candidate
pub record IsAcceptable (m : Problem) (i p : ℕ) : Type 0 where
  pub listed : place_of p (list_of m i) < length (list_of m i)
  pub admitted : IsTrue (admits m p i)

-- a bar, if there is one, is a rank
abbrev pub IsBar : Option ℕ → Type 0
IsBar None = Unit {0}
IsBar (Some bar) = (1 ≤ bar) × (bar ≤ MAX_RANK)

-- the parts fit together: indexes in range, nothing listed twice, ranks that rise strictly along
-- the turn order, and all within the limits
pub record IsValid (m : Problem) : Type 0 where
  pub types : m.types ≤ MAX_TYPES
  pub programmes : length m.programmes ≤ MAX_PROGRAMMES
  pub candidates : length m.lists ≤ MAX_CANDIDATES
  pub orders : length m.orders ≡ m.types
  pub ranks : length m.ranks ≡ m.types
  pub kinds : (p : ℕ) → p < length m.programmes → kind_of m p < m.types
  pub quotas : (p : ℕ) → p < length m.programmes → quota_of m p ≤ MAX_QUOTA
  pub bars : (p : ℕ) → p < length m.programmes → IsBar (bar_of m p)
  pub list_lengths : (i : ℕ) → i < length m.lists → length (list_of m i) ≤ MAX_ENTRIES
  pub list_entries : (i k : ℕ) → i < length m.lists → k < length (list_of m i)
      → slice_index (list_of m i) k < length m.programmes
  pub list_distinct : (i : ℕ) → i < length m.lists → HasNoRepeats (list_of m i)
  pub order_entries : (t k : ℕ) → t < m.types → k < length (order_of m t)
      → slice_index (order_of m t) k < length m.lists
  pub order_distinct : (t : ℕ) → t < m.types → HasNoRepeats (order_of m t)
  pub rank_lengths : (t : ℕ) → t < m.types → length (ranks_of m t) ≡ length (order_of m t)
  pub ranks_rise : (t j k : ℕ) → t < m.types → j < k → k < length (ranks_of m t)
      → slice_index (ranks_of m t) j < slice_index (ranks_of m t) k
  pub rank_limits : (t k : ℕ) → t < m.types → k < length (ranks_of m t)
      → (1 ≤ slice_index (ranks_of m t) k) × (slice_index (ranks_of m t) k ≤ MAX_RANK)
