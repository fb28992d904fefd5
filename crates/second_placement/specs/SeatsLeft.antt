-- The market of the seats left: what a second placement runs on, once some of those whom the first
-- one placed have registered for what they hold.
use Rattle.std.specs.Prelude.{◌≡◌, ℕ, ◌+◌, ◌-◌, ◌≤◌, Bool, false, List, [], length, map, Option, None, IsSome, is_some, if◌then◌else◌, slice_index_or}
use Rattle.std.specs.List.{range_with_len}
use Rattle.market.specs.Counting.{count_below, count_of, is_programme}
use Rattle.market.specs.Problems.{Problem, no_programme, quota_of}
use Rattle.market.specs.Stability.{IsPlacement, held_by}
use Rattle.market.specs.declared.programme.Prog.{Prog}

-- ---- who keeps a seat

-- whether the candidate has registered
abbrev pub has_registered : List Bool → ℕ → Bool
has_registered registered i = slice_index_or registered i false

-- the programme for which the candidate has registered: the one held, and none for who has not
-- registered; the registration of a candidate who holds none has no effect
abbrev pub seat_kept : List (Option ℕ) → List Bool → ℕ → Option ℕ
seat_kept held registered i = if has_registered registered i then held_by held i else None

-- how many registered candidates hold p
unfoldable pub registered_count : List (Option ℕ) → List Bool → ℕ → ℕ
registered_count held registered p =
    count_below (λ i. is_programme p (seat_kept held registered i)) (length held)

-- ---- the market of the seats left

-- a programme with the seats that its registered holders leave
abbrev pub programme_left : List Prog → List (Option ℕ) → List Bool → ℕ → Prog
programme_left programmes held registered p =
    let before = slice_index_or programmes p no_programme in
    record before { quota = before.quota - registered_count held registered p }

-- all programmes so
unfoldable pub programmes_left : List Prog → List (Option ℕ) → List Bool → List Prog
programmes_left programmes held registered =
    map (programme_left programmes held registered) (range_with_len 0 (length programmes))

-- the list with which a candidate takes part: none who held a programme does, registered or not
abbrev pub list_left : List (List ℕ) → List (Option ℕ) → ℕ → List ℕ
list_left lists held i = if is_some (held_by held i) then [] else slice_index_or lists i []

-- all lists so
unfoldable pub lists_left : List (List ℕ) → List (Option ℕ) → List (List ℕ)
lists_left lists held = map (list_left lists held) (range_with_len 0 (length lists))

-- the market of the seats left; types, bars, turn orders and ranks are those of the first placement
unfoldable pub second_problem : Problem → List (Option ℕ) → List Bool → Problem
second_problem m held registered =
    record m {
      programmes = programmes_left m.programmes held registered;
      lists = lists_left m.lists held;
    }

-- ---- what the second placement can give

-- the seats that were registered for and those of a later placement are together within the quotas,
-- and no candidate holds a programme in both placements
pub record FitsBeside (m : Problem) (held : List (Option ℕ)) (registered : List Bool)
    (later : List (Option ℕ)) : Type 0 where
  pub quotas : (p : ℕ) → count_of p later + registered_count held registered p ≤ quota_of m p
  pub once : (i : ℕ) → IsSome (held_by held i) → held_by later i ≡ None

-- every placement of the market of the seats left does
abbrev pub EachFitsBeside : Problem → List (Option ℕ) → List Bool → Type 0
EachFitsBeside m held registered =
    (later : List (Option ℕ)) → IsPlacement (second_problem m held registered) later
    → FitsBeside m held registered later
