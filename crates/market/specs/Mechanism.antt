-- The multi-category serial dictatorship, by whole rounds.
use Rattle.std.specs.Prelude.{◌≡◌, ℕ, zero, suc, ◌+◌, ◌*◌, ◌<◌, ◌≤◌, Bool, List, map, length, take, replicate, IsTrue, Option, None, ◌&&◌, is_some, ◌==◌, nat_lt, filter, if◌then◌else◌, slice_get, slice_index, slice_index_or}
use Rattle.std.specs.List.{position_or_len, range_with_len}
use Rattle.market.specs.declared.programme.Prog.{Prog}
use Rattle.market.specs.declared.placement.Outcome.{Outcome}
use Rattle.market.specs.Counting.{count_below, sum_below, is_programme}
use Rattle.market.specs.Dictatorships.{Dictatorship, picks}
use Rattle.market.specs.Problems.{Problem, kind_of, list_of, order_of, turn_of, admits}

-- ---- one round: a dictatorship for each type

-- whether the candidate's turn in type t may take the programme: it is one of the type, and admits
-- the candidate
unfoldable pub is_offered : Problem → ℕ → ℕ → ℕ → Bool
is_offered m t i p = (kind_of m p == t) && admits m p i

-- the list of a candidate's turn in a type: the preference list up to the cut, restricted to the
-- programmes of the type that are acceptable to the candidate
unfoldable pub turn_list : Problem → List ℕ → ℕ → ℕ → List ℕ
turn_list m cuts t i = filter (is_offered m t i) (take (slice_index cuts i) (list_of m i))

-- the dictatorship of a type under cuts, with no seats taken before it
unfoldable pub type_dictatorship : Problem → List ℕ → ℕ → Dictatorship
type_dictatorship m cuts t =
    record {
      quota = map (λ (q : Prog). q.quota) m.programmes;
      fill = replicate (length m.programmes) 0;
      lists = map (turn_list m cuts t) (order_of m t);
    }

-- the tentative programme of a candidate in a type under cuts, or none
unfoldable pub tentative : Problem → List ℕ → ℕ → ℕ → Option ℕ
tentative m cuts t i =
    slice_index_or (picks (type_dictatorship m cuts t) (length (order_of m t))) (turn_of m t i) None

-- ---- who is cut, and where, by any choices c of candidates in types

-- whether a candidate has choices in two or more types
unfoldable pub has_several_in : Problem → (ℕ → ℕ → Option ℕ) → ℕ → Bool
has_several_in m c i = nat_lt 1 (count_below (λ t. is_some (c t i)) m.types)

-- the place of the best choice in the candidate's list, or the list's length
unfoldable pub best_in : Problem → (ℕ → ℕ → Option ℕ) → ℕ → ℕ
best_in m c i = position_or_len (λ p. is_programme p (c (kind_of m p) i)) (list_of m i)

-- the next cut of a candidate: one who has several keeps the list up to and with the best of them
unfoldable pub cut_in : Problem → (ℕ → ℕ → Option ℕ) → List ℕ → ℕ → ℕ
cut_in m c cuts i = if has_several_in m c i then best_in m c i + 1 else slice_index cuts i

-- the next cuts of all candidates
unfoldable pub cuts_in : Problem → (ℕ → ℕ → Option ℕ) → List ℕ → List ℕ
cuts_in m c cuts = map (cut_in m c cuts) (range_with_len 0 (length m.lists))

-- how many candidates have choices in two or more types
unfoldable pub several_in : Problem → (ℕ → ℕ → Option ℕ) → ℕ
several_in m c = count_below (has_several_in m c) (length m.lists)

-- ---- the same by the tentative programmes of the round under these cuts

-- whether a candidate has tentative programmes in two or more types
unfoldable pub has_several : Problem → List ℕ → ℕ → Bool
has_several m cuts = has_several_in m (tentative m cuts)

-- the place of the best tentative programme in the candidate's list, or the list's length
unfoldable pub best_place : Problem → List ℕ → ℕ → ℕ
best_place m cuts = best_in m (tentative m cuts)

-- the cut of a candidate after the round
unfoldable pub next_cut : Problem → List ℕ → ℕ → ℕ
next_cut m cuts = cut_in m (tentative m cuts) cuts

-- the cuts of all candidates after the round
unfoldable pub next_cuts : Problem → List ℕ → List ℕ
next_cuts m cuts = cuts_in m (tentative m cuts) cuts

-- how many candidates have tentative programmes in two or more types
unfoldable pub several_count : Problem → List ℕ → ℕ
several_count m cuts = several_in m (tentative m cuts)

-- whether the candidate's tentative programme in p's type is p
unfoldable pub is_taken : Problem → List ℕ → ℕ → ℕ → Bool
is_taken m cuts i p = is_programme p (tentative m cuts (kind_of m p) i)

-- ---- the rounds

-- the cuts of the first round: whole lists
unfoldable pub whole_cuts : Problem → List ℕ
whole_cuts m = map (λ (list : List ℕ). length list) m.lists

-- the cuts after r rounds
unfoldable pub cuts_after : Problem → ℕ → List ℕ
cuts_after m zero = whole_cuts m
cuts_after m (suc r) = next_cuts m (cuts_after m r)

-- whether a round under these cuts is the last: nobody has several tentative programmes
unfoldable pub is_settled : Problem → List ℕ → Bool
is_settled m cuts = several_count m cuts == 0

-- the first settled round from round r on, within n more
unfoldable pub settled_from : Problem → ℕ → ℕ → ℕ
settled_from m zero r = r
settled_from m (suc n) r = if is_settled m (cuts_after m r) then r else settled_from m n (suc r)

-- how many entries all preference lists have
unfoldable pub entry_count : Problem → ℕ
entry_count m = sum_below (λ i. length (list_of m i)) (length m.lists)

-- how many entries the cuts leave
unfoldable pub entries_left : Problem → List ℕ → ℕ
entries_left m cuts = sum_below (λ i. slice_index cuts i) (length m.lists)

-- the number of rounds that cut a list: those before the first settled one, which comes within as
-- many rounds as there are entries
unfoldable pub cutting_rounds : Problem → ℕ
cutting_rounds m = settled_from m (entry_count m) 0

-- ---- what the mechanism gives

-- the best tentative programme of a candidate; in a settled round it is the only one
unfoldable pub best_programme : Problem → List ℕ → ℕ → Option ℕ
best_programme m cuts i = slice_get (list_of m i) (best_place m cuts i)

-- that of each candidate
unfoldable pub best_programmes : Problem → List ℕ → List (Option ℕ)
best_programmes m cuts = map (best_programme m cuts) (range_with_len 0 (length m.lists))

-- the placement: that of the first settled round
unfoldable pub mechanism_placement : Problem → List (Option ℕ)
mechanism_placement m = best_programmes m (cuts_after m (cutting_rounds m))

-- the number of rounds, the settled one among them
unfoldable pub mechanism_rounds : Problem → ℕ
mechanism_rounds m = cutting_rounds m + 1

-- the candidates cut, counted over all rounds
unfoldable pub mechanism_cuts : Problem → ℕ
mechanism_cuts m = sum_below (λ r. several_count m (cuts_after m r)) (cutting_rounds m)

-- the turns of one whole round: those of all types
unfoldable pub turns_of_round : Problem → ℕ
turns_of_round m = sum_below (λ t. length (order_of m t)) m.types

-- placement and counts, with the turns of whole rounds
unfoldable pub mechanism : Problem → Outcome
mechanism m =
    record {
      placement = mechanism_placement m;
      rounds = mechanism_rounds m;
      cuts = mechanism_cuts m;
      turns = mechanism_rounds m * turns_of_round m;
    }

-- the rounds end: at most one round more than there are list entries, the last one settled, and
-- each earlier one cutting an entry away
pub record HasLastRound (m : Problem) : Type 0 where
  pub bounded : mechanism_rounds m ≤ entry_count m + 1
  pub last : IsTrue (is_settled m (cuts_after m (cutting_rounds m)))
  pub cutting : (r : ℕ) → r < cutting_rounds m
      → entries_left m (cuts_after m (suc r)) < entries_left m (cuts_after m r)

-- one cut for each candidate, at most the length of the candidate's list
pub record IsCuts (m : Problem) (cuts : List ℕ) : Type 0 where
  pub candidates : length cuts ≡ length m.lists
  pub within : (i : ℕ) → i < length m.lists → slice_index cuts i ≤ length (list_of m i)
