-- Who is cut after a round, and where; and that the rounds end. Who takes several loses an entry,
-- so the entries left fall from round to round until nobody does.
use Rattle.std.proofs.Common.{◌≡◌, ℕ, zero, suc, ◌+◌, ◌<◌, ◌≤◌, Bool, true, false, cond, List, [], length, Option, Some, refl, sym, ap, ◌∙◌, subst, arith, ⊎_elim, map}
use Rattle.std.specs.Prelude.{find, slice_index, is_some, if◌then◌else◌}
use Rattle.std.specs.List.{range_with_len}
use Rattle.std.proofs.lemmas.Bool.{cases_eq, cases_lt, cases_order, cases_Bool, false≢true, eqb-true, eqb-false, ltb-true, lt-ltb}
use Rattle.std.proofs.lemmas.List.{get_or_past}
use Rattle.std.proofs.lemmas.List.FromFn.{get_or-map-range_with_len, length-map-range_with_len}
use Rattle.std.proofs.lemmas.List.Folds.{find_at}
use Rattle.std.proofs.Math.ListN.{get_or-map as get_or-map_past}
use Rattle.market.specs.Counting.{count_below}
use Rattle.market.specs.Problems.{Problem, place_of, kind_of, list_of}
use Rattle.market.specs.Mechanism.{tentative, has_several, is_taken, best_place, next_cut, next_cuts, whole_cuts, cuts_after, several_count, is_settled, settled_from, entry_count, entries_left, mechanism_rounds, HasLastRound, cutting_rounds, best_programme, best_in, cut_in, cuts_in, has_several_in, several_in}
use Rattle.market.proofs.Firsts.{find_passes, find_first, first_at, place_same}
use Rattle.market.proofs.Turns.{is_programme-true, is_programme-from, some_from}
use Rattle.market.proofs.Counts.{Passes, count_one, count_two, count_some, count_some_two, sum_lt, sum_same}
use Rattle.market.proofs.Tentatives.{tentative-takes}

-- something is some
is_some_from : (o : Option ℕ) (p : ℕ) → o ≡ Some p → is_some o ≡ true
is_some_from o p e = ap (λ (x : Option ℕ). is_some x) e

-- ---- two programmes at once

-- the candidate takes programmes in two types at once
pub record TakesTwo (m : Problem) (cuts : List ℕ) (i : ℕ) : Type 0 where
  pub first_kind : ℕ
  pub second_kind : ℕ
  pub apart : first_kind < second_kind
  pub below : second_kind < m.types
  pub first : ℕ
  pub second : ℕ
  pub takes_first : tentative m cuts first_kind i ≡ Some first
  pub takes_second : tentative m cuts second_kind i ≡ Some second

-- who has several takes programmes in two types
pub several-takes : (m : Problem) (cuts : List ℕ) (i : ℕ) → has_several m cuts i ≡ true
    → TakesTwo m cuts i
unfolding has_several has_several_in
several-takes m cuts i e =
    let r = count_some_two (λ t. is_some (tentative m cuts t i)) m.types (ltb-true 1 _ e) in
    let a = some_from (tentative m cuts r.first i) r.first_passes in
    let b = some_from (tentative m cuts r.second i) r.second_passes in
    record {
      first_kind = r.first;
      second_kind = r.second;
      apart = r.apart;
      below = r.below;
      first = a.0;
      second = b.0;
      takes_first = a.1;
      takes_second = b.1;
    }

-- who takes programmes in two types has several
several_two : (m : Problem) (cuts : List ℕ) (i t u p q : ℕ) → t < u → u < m.types
    → tentative m cuts t i ≡ Some p → tentative m cuts u i ≡ Some q → has_several m cuts i ≡ true
unfolding has_several has_several_in
several_two m cuts i t u p q l k e f =
    lt-ltb 1 _ (count_two (λ t. is_some (tentative m cuts t i)) m.types t u l k
    (is_some_from (tentative m cuts t i) p e) (is_some_from (tentative m cuts u i) q f))

-- who does not take several takes in one type alone
pub one_kind : (m : Problem) (cuts : List ℕ) (i t u p q : ℕ) → has_several m cuts i ≡ false
    → t < m.types → u < m.types → tentative m cuts t i ≡ Some p → tentative m cuts u i ≡ Some q
    → t ≡ u
one_kind m cuts i t u p q no' lt lu e f =
    ⊎_elim
    (λ s. s)
    (λ o. ⊎_elim
    (λ less. absurd (false≢true (sym no' ∙ several_two m cuts i t u p q less lu e f)))
    (λ more. absurd (false≢true (sym no' ∙ several_two m cuts i u t q p more lt f e)))
    o)
    (cases_order t u)

-- ---- the best programme taken

-- what is taken is the tentative programme of its type
pub is_taken-true : (m : Problem) (cuts : List ℕ) (i p : ℕ) → is_taken m cuts i p ≡ true
    → tentative m cuts (kind_of m p) i ≡ Some p
unfolding is_taken
is_taken-true m cuts i p e = is_programme-true p (tentative m cuts (kind_of m p) i) e

-- a tentative programme is taken
pub is_taken-from : (m : Problem) (cuts : List ℕ) (t i p : ℕ) → tentative m cuts t i ≡ Some p
    → is_taken m cuts i p ≡ true
unfolding is_taken
is_taken-from m cuts t i p e =
    is_programme-from p (tentative m cuts (kind_of m p) i)
    (ap (λ (u : ℕ). tentative m cuts u i) (tentative-takes m cuts t i p e).kind ∙ e)

-- the best programme is the first of the list that is taken
pub best_programme-find : (m : Problem) (cuts : List ℕ) (i : ℕ)
    → best_programme m cuts i ≡ find (is_taken m cuts i) (list_of m i)
unfolding best_programme best_place best_in is_taken
best_programme-find m cuts i = sym (find_at (is_taken m cuts i) (list_of m i))

-- what is placed is taken in its type
pub best_programme-takes : (m : Problem) (cuts : List ℕ) (i p : ℕ)
    → best_programme m cuts i ≡ Some p
    → tentative m cuts (kind_of m p) i ≡ Some p
best_programme-takes m cuts i p e =
    is_taken-true m cuts i p
    (find_passes (is_taken m cuts i) (list_of m i) p (sym (best_programme-find m cuts i) ∙ e))

-- the best of what is taken
pub record IsBest (m : Problem) (cuts : List ℕ) (i b : ℕ) : Type 0 where
  pub is_placed : best_programme m cuts i ≡ Some b
  pub takes : tentative m cuts (kind_of m b) i ≡ Some b
  pub place : best_place m cuts i ≡ place_of b (list_of m i)

-- the candidate has a best programme, which stands no later in the list than p
pub record BestBy (m : Problem) (cuts : List ℕ) (i p : ℕ) : Type 0 where
  pub best : ℕ
  pub is_best : IsBest m cuts i best
  pub no_later : place_of best (list_of m i) ≤ place_of p (list_of m i)

-- its place is the best place
place_of_best : (m : Problem) (cuts : List ℕ) (i b : ℕ)
    → find (is_taken m cuts i) (list_of m i) ≡ Some b
    → best_place m cuts i ≡ place_of b (list_of m i)
unfolding best_place best_in is_taken
place_of_best m cuts i b e =
    first_at (is_taken m cuts i) (list_of m i) b (find_passes (is_taken m cuts i) (list_of m i) b e)
    e

-- who takes a programme has a best one, no later in the list
pub best_by : (m : Problem) (cuts : List ℕ) (t i p : ℕ) → tentative m cuts t i ≡ Some p
    → BestBy m cuts i p
best_by m cuts t i p e =
    let f = find_first (is_taken m cuts i) (list_of m i) p (is_taken-from m cuts t i p e)
    (tentative-takes m cuts t i p e).listed in
    let at = best_programme-find m cuts i ∙ f.found in
    record {
      best = f.entry;
      is_best = record {
        is_placed = at;
        takes = best_programme-takes m cuts i f.entry at;
        place = place_of_best m cuts i f.entry f.found;
      };
      no_later = f.no_later;
    }

-- ---- the next cuts

-- the next cut of a candidate
pub next_cuts-at : (m : Problem) (cuts : List ℕ) (i : ℕ) → i < length m.lists
    → slice_index (next_cuts m cuts) i ≡ next_cut m cuts i
unfolding next_cuts cuts_in next_cut cut_in
next_cuts-at m cuts i l = get_or-map-range_with_len (next_cut m cuts) 0 (length m.lists) i i 0 l
    refl'
  where
    refl' : 0 + i ≡ i
    refl' = omega arith

-- there is none past the last candidate
pub next_cuts-past : (m : Problem) (cuts : List ℕ) (i : ℕ) → length m.lists ≤ i
    → slice_index (next_cuts m cuts) i ≡ 0
unfolding next_cuts cuts_in next_cut cut_in
next_cuts-past m cuts i l =
    let e = length-map-range_with_len (next_cut m cuts) 0 (length m.lists) in
    get_or_past (map (next_cut m cuts) (range_with_len 0 (length m.lists))) i 0 (omega arith)

-- who has several keeps the list up to and with the best of them
pub next_cut-several : (m : Problem) (cuts : List ℕ) (i : ℕ) → has_several m cuts i ≡ true
    → next_cut m cuts i ≡ best_place m cuts i + 1
unfolding next_cut cut_in has_several has_several_in best_place best_in
next_cut-several m cuts i e = ap (λ (b : Bool). cond b (best_place m cuts i + 1) (slice_index cuts
    i)) e

-- who has not keeps the cut
pub next_cut-same : (m : Problem) (cuts : List ℕ) (i : ℕ) → has_several m cuts i ≡ false
    → next_cut m cuts i ≡ slice_index cuts i
unfolding next_cut cut_in has_several has_several_in best_place best_in
next_cut-same m cuts i e = ap (λ (b : Bool). cond b (best_place m cuts i + 1) (slice_index cuts i))
    e

-- who takes several loses an entry
pub next_cut-lt : (m : Problem) (cuts : List ℕ) (i : ℕ) → has_several m cuts i ≡ true
    → next_cut m cuts i < slice_index cuts i
next_cut-lt m cuts i e =
    let r = several-takes m cuts i e in
    let list = list_of m i in
    let a = best_by m cuts r.first_kind i r.first r.takes_first in
    let b = best_by m cuts r.second_kind i r.second r.takes_second in
    let x = tentative-takes m cuts r.first_kind i r.first r.takes_first in
    let y = tentative-takes m cuts r.second_kind i r.second r.takes_second in
    let at = next_cut-several m cuts i e in
    ⊎_elim
    (λ l. l)
    (λ g.
    let same : place_of r.first list ≡ place_of r.second list =
    omega (
      arith,
      a.no_later,
      b.no_later,
      a.is_best.place,
      b.is_best.place,
      x.within,
      y.within,
    ) in
    let eq = place_same r.first r.second list x.listed same in
    let kinds : r.first_kind ≡ r.second_kind = sym x.kind ∙ ap (kind_of m) eq ∙ y.kind in
    absurd (omega (arith, r.apart)))
    (cases_lt (next_cut m cuts i) (slice_index cuts i))

-- a cut does not grow
pub next_cut-le : (m : Problem) (cuts : List ℕ) (i : ℕ) → next_cut m cuts i ≤ slice_index cuts i
next_cut-le m cuts i =
    ⊎_elim
    (λ t. let l = next_cut-lt m cuts i t in omega arith)
    (λ f. let e = next_cut-same m cuts i f in omega arith)
    (cases_Bool (has_several m cuts i))

-- so no cut of the list does
pub next_cuts-le : (m : Problem) (cuts : List ℕ) (i : ℕ)
    → slice_index (next_cuts m cuts) i ≤ slice_index cuts i
next_cuts-le m cuts i =
    ⊎_elim
    (λ l. let e = next_cuts-at m cuts i l in let h = next_cut-le m cuts i in omega arith)
    (λ p. let e = next_cuts-past m cuts i p in omega arith)
    (cases_lt i (length m.lists))

-- ---- the rounds end

-- in a settled round nobody has several
pub settled-none : (m : Problem) (cuts : List ℕ) (i : ℕ) → is_settled m cuts ≡ true
    → i < length m.lists → has_several m cuts i ≡ false
unfolding is_settled several_count several_in has_several has_several_in
settled-none m cuts i e l =
    ⊎_elim
    (λ t. let one = count_one (has_several m cuts) (length m.lists) i l t in
    let zero' = eqb-true (count_below (has_several m cuts) (length m.lists)) 0 e in
    absurd (omega arith))
    (λ f. f)
    (cases_Bool (has_several m cuts i))

-- in a round that is not somebody has
unsettled : (m : Problem) (cuts : List ℕ) → is_settled m cuts ≡ false
    → Passes (has_several m cuts) (length m.lists)
unfolding is_settled several_count several_in has_several has_several_in
unsettled m cuts e =
    let ne = eqb-false (count_below (has_several m cuts) (length m.lists)) 0 e in
    count_some (has_several m cuts) (length m.lists) (omega arith)

-- a round that is not settled cuts at least one entry away
pub total-falls : (m : Problem) (cuts : List ℕ) → is_settled m cuts ≡ false
    → entries_left m (next_cuts m cuts) < entries_left m cuts
unfolding entries_left
total-falls m cuts e =
    let r = unsettled m cuts e in
    let at = next_cuts-at m cuts r.number r.below in
    let l = next_cut-lt m cuts r.number r.passes in
    sum_lt (λ i. slice_index (next_cuts m cuts) i) (λ i. slice_index cuts i) (length m.lists)
    r.number (λ i h. next_cuts-le m cuts i) r.below (omega arith)

-- the cuts after one round more
pub cuts_after-suc : (m : Problem) (r : ℕ) → cuts_after m (suc r) ≡ next_cuts m (cuts_after m r)
unfolding cuts_after
cuts_after-suc m r = refl

-- the cuts before the first round
pub cuts_after-zero : (m : Problem) (i : ℕ)
    → slice_index (cuts_after m zero) i ≡ length (list_of m i)
unfolding cuts_after whole_cuts list_of
cuts_after-zero m i = get_or-map_past (λ (list : List ℕ). length list) m.lists i []

-- the first settled round, one round on
settled_step : (m : Problem) (n r : ℕ)
    → settled_from m (suc n) r ≡ (if is_settled m (cuts_after m r) then r else settled_from m n
    (suc r))
unfolding settled_from
settled_step m n r = refl

-- where no round is left to look at
settled_end : (m : Problem) (r : ℕ) → settled_from m zero r ≡ r
unfolding settled_from
settled_end m r = refl

-- where this round is settled
settled_yes : (m : Problem) (n r : ℕ) → is_settled m (cuts_after m r) ≡ true
    → settled_from m (suc n) r ≡ r
settled_yes m n r e = settled_step m n r ∙ ap (λ (b : Bool). cond b r (settled_from m n (suc r))) e

-- where it is not
settled_no : (m : Problem) (n r : ℕ) → is_settled m (cuts_after m r) ≡ false
    → settled_from m (suc n) r ≡ settled_from m n (suc r)
settled_no m n r e = settled_step m n r ∙ ap (λ (b : Bool). cond b r (settled_from m n (suc r))) e

-- a round that is not settled cuts an entry away
falls : (m : Problem) (r : ℕ) → is_settled m (cuts_after m r) ≡ false
    → entries_left m (cuts_after m (suc r)) < entries_left m (cuts_after m r)
falls m r e =
    let l = total-falls m (cuts_after m r) e in
    let s = ap (entries_left m) (cuts_after-suc m r) in
    omega arith

-- the search ends at a settled round, and each round before it is not settled
pub record Settles (m : Problem) (from found n : ℕ) : Type 0 where
  pub settled : is_settled m (cuts_after m found) ≡ true
  pub bounded : found ≤ from + n
  pub not_before : (r : ℕ) → from ≤ r → r < found → is_settled m (cuts_after m r) ≡ false

-- within as many rounds as there are entries one is settled
settles : (m : Problem) (n r : ℕ) → entries_left m (cuts_after m r) ≤ n
    → Settles m r (settled_from m n r) n
settles m zero r l =
    ⊎_elim
    (λ t. subst (λ (s : ℕ). Settles m r s zero) (sym (settled_end m r))
    (record { settled = t; bounded = omega arith; not_before = λ k a b. absurd (omega arith) }))
    (λ f. let h = falls m r f in absurd (omega arith))
    (cases_Bool (is_settled m (cuts_after m r)))
settles m (suc n) r l =
    ⊎_elim
    (λ t. subst (λ (s : ℕ). Settles m r s (suc n)) (sym (settled_yes m n r t))
    (record { settled = t; bounded = omega arith; not_before = λ k a b. absurd (omega arith) }))
    (λ f.
    let h = falls m r f in
    let ih = settles m n (suc r) (omega arith) in
    subst (λ (s : ℕ). Settles m r s (suc n)) (sym (settled_no m n r f))
    (record {
      settled = ih.settled;
      bounded = omega (arith, ih.bounded);
      not_before = λ k a b.
          ⊎_elim
          (λ same. subst (λ (j : ℕ). is_settled m (cuts_after m j) ≡ false) same f)
          (λ ne. ih.not_before k (omega arith) b)
          (cases_eq r k);
    }))
    (cases_Bool (is_settled m (cuts_after m r)))

-- at first all entries are left
pub first_total : (m : Problem) → entries_left m (cuts_after m zero) ≡ entry_count m
unfolding entries_left entry_count
first_total m =
    sum_same (λ i. slice_index (cuts_after m zero) i) (λ i. length (list_of m i)) (length m.lists)
    (λ i l. cuts_after-zero m i)

-- the round after those that cut is settled
pub cutting_rounds-settles : (m : Problem) → Settles m 0 (cutting_rounds m) (entry_count m)
unfolding cutting_rounds
cutting_rounds-settles m = let e = first_total m in settles m (entry_count m) 0 (omega arith)

-- the rounds end
pub rounds_end : (m : Problem) → HasLastRound m
unfolding mechanism_rounds
rounds_end m =
    let s = cutting_rounds-settles m in
    record {
      bounded = omega (arith, s.bounded);
      last = s.settled;
      cutting = λ r l. falls m r (s.not_before r (omega arith) l);
    }
