-- Which turns a round has to run again: in each type those from the first whose choice was cut
-- away.
use Rattle.std.specs.Prelude.{◌≡◌, ℕ, zero, suc, ◌-◌, ◌<◌, ◌≤◌, Bool, false, List, length, Option, Some, None, nat_lt, not, if◌then◌else◌, slice_index, slice_index_or}
use Rattle.std.specs.List.{position, position_or_len}
use Rattle.market.specs.Counting.{count_below, sum_below, is_programme}
use Rattle.market.specs.Problems.{Problem, place_of, list_of, order_of, turn_of}
use Rattle.market.specs.Mechanism.{cut_in, tentative, cuts_after, mechanism_rounds}
use Rattle.market.specs.LocalNumbers.{programmes_of}

-- whether a choice stands at or beyond a cut of the list
abbrev pub is_beyond : List ℕ → ℕ → Option ℕ → Bool
is_beyond list cut None = false
is_beyond list cut (Some p) = not (nat_lt (place_of p list) cut)

-- whether the candidate's choice in the type stands beyond its new cut
unfoldable pub is_cut_away : Problem → (ℕ → ℕ → Option ℕ) → List ℕ → ℕ → ℕ → Bool
is_cut_away m c cuts t i = is_beyond (list_of m i) (cut_in m c cuts i) (c t i)

-- the first changed turn of a type: the least whose choice was cut away, or the number of turns
-- where none was
unfoldable pub first_changed : Problem → (ℕ → ℕ → Option ℕ) → List ℕ → ℕ → ℕ
first_changed m c cuts t = position_or_len (is_cut_away m c cuts t) (order_of m t)

-- the first turn of the type that round r runs: turn 0 in the first round, and then the first that
-- the last cuts changed
unfoldable pub first_run : Problem → ℕ → ℕ → ℕ
first_run m zero t = 0
first_run m (suc r) t = first_changed m (tentative m (cuts_after m r)) (cuts_after m r) t

-- the turns of round r: of each type those from the first one that is run
unfoldable pub round_turns : Problem → ℕ → ℕ
round_turns m r = sum_below (λ t. length (order_of m t) - first_run m r t) m.types

-- the turns of a placement whose rounds run again only what the cuts changed
unfoldable pub placement_turns : Problem → ℕ
placement_turns m = sum_below (round_turns m) (mechanism_rounds m)

-- ---- a round that starts from the kept choices of the one before

-- the first changed turn of a type, or none
unfoldable pub changed_turn : Problem → (ℕ → ℕ → Option ℕ) → List ℕ → ℕ → Option ℕ
changed_turn m c cuts t = position (is_cut_away m c cuts t) (order_of m t)

-- the row of a type has the choices of the first k turns, and none where there is no turn
pub record IsRunUpto (m : Problem) (cuts : List ℕ) (t k : ℕ) (row : List (Option ℕ)) : Type 0 where
  pub candidates : length row ≡ length m.lists
  pub run : (i : ℕ) → i < length m.lists → turn_of m t i < k
      → slice_index_or row i None ≡ tentative m cuts t i
  pub idle : (i : ℕ) → i < length m.lists → length (order_of m t) ≤ turn_of m t i
      → slice_index_or row i None ≡ None

-- how many of the first k turns of the type have the choice p
unfoldable pub kept_seats : Problem → (ℕ → ℕ → Option ℕ) → ℕ → ℕ → ℕ → ℕ
kept_seats m c t k p = count_below (λ j. is_programme p (c t (slice_index (order_of m t) j))) k

-- for each programme of the type the seats that the first k turns have taken
pub record IsKeptFill (m : Problem) (c : ℕ → ℕ → Option ℕ) (t k : ℕ) (fill : List ℕ) : Type 0 where
  pub programmes : length fill ≡ length (programmes_of m t)
  pub each : (j : ℕ) → j < length (programmes_of m t)
      → slice_index fill j ≡ kept_seats m c t k (slice_index (programmes_of m t) j)

-- a turn, or none where it is the number of turns
abbrev pub turn_or_none : ℕ → ℕ → Option ℕ
turn_or_none n k = if nat_lt k n then Some k else None

-- the lesser of a turn, if there is one, and another
abbrev pub least_turn : Option ℕ → ℕ → ℕ
least_turn None k = k
least_turn (Some j) k = if nat_lt j k then j else k

-- the same where the test is met, and else what was there
abbrev pub noted : Bool → Option ℕ → ℕ → Option ℕ
noted b o k = if b then Some (least_turn o k) else o
