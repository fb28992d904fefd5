-- One serial dictatorship: each turn takes the first programme of its list that still has a seat.
use Rattle.std.specs.Prelude.{◌≡◌, ℕ, zero, suc, ◌+◌, ◌<◌, ◌≤◌, Bool, List, [], ◌∷◌, ◌++◌, map, length, Option, nat_lt, slice_get, slice_index, slice_index_or}
use Rattle.std.specs.List.{position_or_len, range_with_len}
use Rattle.market.specs.declared.limits.TheConstants.{MAX_PROGRAMMES, MAX_CANDIDATES, MAX_ENTRIES, MAX_QUOTA}
use Rattle.market.specs.Counting.{count_of}

-- for each programme its quota and its fill, which is the seats taken before the first turn; for each
-- turn its list
pub record Dictatorship : Type 0 where
  pub quota : List ℕ
  pub fill : List ℕ
  pub lists : List (List ℕ)

-- the dictatorship of these parts
abbrev pub dictatorship : List ℕ → List ℕ → List (List ℕ) → Dictatorship
dictatorship quota fill lists = record { quota = quota; fill = fill; lists = lists }

-- whether p has a seat left after these earlier choices
unfoldable pub has_seat : Dictatorship → List (Option ℕ) → ℕ → Bool
has_seat d earlier p = nat_lt (slice_index d.fill p + count_of p earlier) (slice_index d.quota p)

-- the list of a turn
unfoldable pub list_at : Dictatorship → ℕ → List ℕ
list_at d k = slice_index_or d.lists k []

-- the least place of a list at which the programme has a seat left, or the list's length
unfoldable pub first_open : Dictatorship → List (Option ℕ) → List ℕ → ℕ
first_open d earlier list = position_or_len (has_seat d earlier) list

-- the earlier choices, and what the next list takes after them
unfoldable pub with_next : Dictatorship → List ℕ → List (Option ℕ) → List (Option ℕ)
with_next d list earlier = earlier ++ slice_get list (first_open d earlier list) ∷ []

-- the picks of the first k turns: each a programme, or none
unfoldable pub picks : Dictatorship → ℕ → List (Option ℕ)
picks d zero = []
picks d (suc k) = with_next d (list_at d k) (picks d k)

-- the choice of turn k: a place in its list, or the list's length, which means none
unfoldable pub choice : Dictatorship → ℕ → ℕ
choice d k = first_open d (picks d k) (list_at d k)

-- the pick of turn k: the programme at the place that it chooses, or none
unfoldable pub pick : Dictatorship → ℕ → Option ℕ
pick d k = slice_get (list_at d k) (choice d k)

-- the choices of all turns
unfoldable pub choices : Dictatorship → List ℕ
choices d = map (choice d) (range_with_len 0 (length d.lists))

-- how many of the first k turns pick p
unfoldable pub seats_taken : Dictatorship → ℕ → ℕ → ℕ
seats_taken d k p = count_of p (picks d k)

-- one list begins the other
abbrev pub IsPrefixOf : List ℕ → List ℕ → Type 0
IsPrefixOf xs ys = (rest : List ℕ) × (xs ++ rest ≡ ys)

-- the same quotas and fills, with lists that begin the older ones
pub record ShortensLists (older newer : Dictatorship) : Type 0 where
  pub quota : newer.quota ≡ older.quota
  pub fill : newer.fill ≡ older.fill
  pub lists : (k : ℕ) → IsPrefixOf (list_at newer k) (list_at older k)

-- at every turn each programme has at most as many seats taken as before
abbrev pub FreesSeats : Dictatorship → Dictatorship → Type 0
FreesSeats older newer = (k p : ℕ) → seats_taken newer k p ≤ seats_taken older k p

-- the parts fit together, and all is within the limits
pub record IsValidDictatorship (d : Dictatorship) : Type 0 where
  pub fills : length d.fill ≡ length d.quota
  pub programmes : length d.quota ≤ MAX_PROGRAMMES
  pub turns : length d.lists ≤ MAX_CANDIDATES
  pub quotas : (p : ℕ) → p < length d.quota → slice_index d.quota p ≤ MAX_QUOTA
  pub filled : (p : ℕ) → p < length d.quota → slice_index d.fill p ≤ slice_index d.quota p
  pub list_lengths : (k : ℕ) → k < length d.lists → length (list_at d k) ≤ MAX_ENTRIES
  pub list_entries : (k j : ℕ) → k < length d.lists → j < length (list_at d k)
      → slice_index (list_at d k) j < length d.quota

-- for each programme the seats taken before turn k, those of its fill among them
pub record IsSeatsAt (d : Dictatorship) (k : ℕ) (seats : List ℕ) : Type 0 where
  pub count : length seats ≡ length d.quota
  pub each : (p : ℕ) → p < length d.quota
      → slice_index seats p ≡ slice_index d.fill p + seats_taken d k p
