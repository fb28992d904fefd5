-- A round that starts from the kept choices of the round before it: the rows of a table, the seats
-- that the kept turns take, and the turns that are run.
use Rattle.std.proofs.Common.{◌≡◌, ◌≢◌, ℕ, zero, suc, ◌+◌, ◌<◌, ◌≤◌, Bool, cond, not, List, [], length, Option, Some, None, refl, sym, ap, ◌∙◌, subst, arith, get_or, map, set, replicate, ⊎_elim}
use Rattle.std.specs.Prelude.{is_some, nat_lt, slice_get, slice_index, slice_index_or, unwrap_or}
use Rattle.std.specs.List.{position_or_len, range_with_len}
use Rattle.std.proofs.lemmas.Bool.{cases_lt, cases_eq, lt-ltb, le-ltb, ne_eqb}
use Rattle.std.proofs.lemmas.List.{get_or-set_same, get_or-set_other, length-set, get_or_past, get_or-replicate, length-replicate}
use Rattle.std.proofs.lemmas.List.FromFn.{fill_by_all, length-map-range_with_len, get_or-map-range_with_len}
use Rattle.std.proofs.lemmas.Option.{none-some}
use Rattle.market.specs.Counting.{is_programme}
use Rattle.market.specs.Problems.{Problem, IsValid, place_of, kind_of, list_of, order_of, turn_of}
use Rattle.market.specs.Stability.{held_by}
use Rattle.market.specs.Dictatorships.{pick, seats_taken}
use Rattle.market.specs.Mechanism.{tentative, type_dictatorship, has_several, best_place, is_taken, next_cut, next_cuts, several_count, best_programmes, best_programme, best_in, cut_in, cuts_in, has_several_in, several_in}
use Rattle.market.specs.LocalNumbers.{programmes_of, local_of, IsFill, IsFillBefore}
use Rattle.market.specs.Choices.{IsRound, held_in_table, empty_table, IsChoiceTable, IsWithinCuts, best_programmes_in, FitsNumber}
use Rattle.market.specs.Reruns.{is_beyond, is_cut_away, first_changed, changed_turn, IsRunUpto, kept_seats, IsKeptFill}
use Rattle.market.proofs.Firsts.{place_get}
use Rattle.market.proofs.Seats.{position_agree}
use Rattle.market.proofs.Turns.{seats_taken-zero, seats_taken-suc, seats_taken-le-quota, one_more, no_more, is_programme-same}
use Rattle.market.proofs.Tentatives.{turn_at, candidate_at, tentative-pick, tentative-takes, type-quota, type-fill}
use Rattle.market.proofs.Dicts.{entry_lt, local_back, local_lt, local_member}
use Rattle.market.proofs.Locals.{none_at}
use Rattle.market.proofs.Plain.{count_agree}
use Rattle.market.proofs.Reruns.{keeps_upto, no_turn_none}

-- ---- a round's table against the definitions

-- a round's table has a row for each type, with an entry for each candidate
pub round-table : (m : Problem) (cuts : List ℕ) (table : List (List (Option ℕ)))
    → IsRound m cuts table → IsChoiceTable m table
round-table m cuts table r = record { types = r.types; candidates = r.candidates }

-- who has several choices in it has several tentative programmes
pub round-several : (m : Problem) (cuts : List ℕ) (table : List (List (Option ℕ))) (i : ℕ)
    → IsRound m cuts table → i < length m.lists
    → has_several_in m (held_in_table table) i ≡ has_several m cuts i
unfolding has_several_in has_several
round-several m cuts table i r l =
    ap (nat_lt 1) (count_agree (λ t. is_some (held_in_table table t i))
    (λ t. is_some (tentative m cuts t i)) m.types
    (λ t lt. ap (λ (o : Option ℕ). is_some o) (r.each t i lt l)))

-- the best choice is the best tentative programme
pub round-best : (m : Problem) → IsValid m
    → (cuts : List ℕ) (table : List (List (Option ℕ))) (i : ℕ) → IsRound m cuts table
    → i < length m.lists → best_in m (held_in_table table) i ≡ best_place m cuts i
unfolding best_in best_place is_taken
round-best m v cuts table i r l =
    position_agree (λ p. is_programme p (held_in_table table (kind_of m p) i))
    (λ p. is_programme p (tentative m cuts (kind_of m p) i)) (list_of m i)
    (λ j lj. let p = slice_index (list_of m i) j in ap (is_programme p)
    (r.each (kind_of m p) i (v.kinds p (entry_lt m v i j l lj)) l))

-- a candidate's next cut, read from the table
pub round-cut : (m : Problem) → IsValid m → (cuts : List ℕ) (table : List (List (Option ℕ))) (i : ℕ)
    → IsRound m cuts table → i < length m.lists
    → cut_in m (held_in_table table) cuts i ≡ next_cut m cuts i
unfolding cut_in next_cut has_several has_several_in best_place best_in
round-cut m v cuts table i r l =
    ap (λ (b : Bool). cond b (best_in m (held_in_table table) i + 1) (slice_index cuts i))
    (round-several m cuts table i r l)
    ∙ ap (λ (n : ℕ). cond (has_several m cuts i) (n + 1) (slice_index cuts i))
    (round-best m v cuts table i r l)

-- the next cuts, read from the table
pub round-cuts : (m : Problem) → IsValid m → (cuts : List ℕ) (table : List (List (Option ℕ)))
    → IsRound m cuts table → cuts_in m (held_in_table table) cuts ≡ next_cuts m cuts
unfolding cuts_in next_cuts next_cut cut_in
round-cuts m v cuts table r =
    fill_by_all (next_cut m cuts)
    (map (cut_in m (held_in_table table) cuts) (range_with_len 0 (length m.lists))) (length m.lists)
    0
    (length-map-range_with_len (cut_in m (held_in_table table) cuts) 0 (length m.lists))
    (λ i l. get_or-map-range_with_len (cut_in m (held_in_table table) cuts) 0 (length m.lists) i i 0
    l
    (omega arith) ∙ round-cut m v cuts table i r l)

-- how many have several, read from the table
pub round-count : (m : Problem) (cuts : List ℕ) (table : List (List (Option ℕ)))
    → IsRound m cuts table → several_in m (held_in_table table) ≡ several_count m cuts
unfolding several_in several_count has_several has_several_in
round-count m cuts table r =
    count_agree (has_several_in m (held_in_table table)) (has_several m cuts) (length m.lists)
    (λ i l. round-several m cuts table i r l)

-- what each gets, read from the table
pub round-best_programmes : (m : Problem) → IsValid m → (cuts : List ℕ) (table : List (List (Option
    ℕ)))
    → IsRound m cuts table → best_programmes_in m (held_in_table table) ≡ best_programmes m cuts
unfolding best_programmes_in best_programmes best_programme
round-best_programmes m v cuts table r =
    let f = λ (i : ℕ). slice_get (list_of m i) (best_in m (held_in_table table) i) in
    let g = λ (i : ℕ). slice_get (list_of m i) (best_place m cuts i) in
    fill_by_all g (map f (range_with_len 0 (length m.lists))) (length m.lists) None
    (length-map-range_with_len f 0 (length m.lists))
    (λ i l. get_or-map-range_with_len f 0 (length m.lists) i i None l (omega arith)
    ∙ ap (slice_get (list_of m i)) (round-best m v cuts table i r l))

-- a choice is one of a type and a candidate that there are
choice_past : (m : Problem) (table : List (List (Option ℕ))) (t i p : ℕ) → IsChoiceTable m table
    → held_in_table table t i ≡ Some p → (t < m.types) × (i < length m.lists)
choice_past m table t i p s e =
    let n = s.types in
    let lt : t < m.types =
    ⊎_elim (λ l. l)
    (λ past. absurd (none-some p
    (sym (ap (λ (xs : List (Option ℕ)). get_or xs i None)
    (get_or_past table t [] (omega arith))) ∙ e)))
    (cases_lt t m.types) in
    let c = s.candidates t lt in (
      lt,
      ⊎_elim (λ l. l)
          (λ past. absurd (none-some p
          (sym (get_or_past (slice_index_or table t []) i None (omega arith)) ∙ e)))
          (cases_lt i (length m.lists)),
    )

-- each choice of a round stands within the cut
pub round-within : (m : Problem) (cuts : List ℕ) (table : List (List (Option ℕ)))
    → IsRound m cuts table → IsWithinCuts m table cuts
round-within m cuts table r =
    let took = λ (t i p : ℕ) (e : held_in_table table t i ≡ Some p).
    let at = choice_past m table t i p (round-table m cuts table r) e in
    tentative-takes m cuts t i p (sym (r.each t i at.0 at.1) ∙ e) in
    record {
      kind = λ t i p e. (took t i p e).kind;
      turn = λ t i p e. (took t i p e).turn;
      within = λ t i p e. (took t i p e).within;
    }

-- whether a choice is cut away, read from the table
away-agree : (m : Problem) → IsValid m → (cuts : List ℕ) (table : List (List (Option ℕ))) (t i : ℕ)
    → IsRound m cuts table → t < m.types → i < length m.lists
    → is_cut_away m (held_in_table table) cuts t i ≡ is_cut_away m (tentative m cuts) cuts t i
unfolding is_cut_away cut_in has_several_in best_in next_cut has_several best_place is_taken
away-agree m v cuts table t i r lt l =
    ap (λ (n : ℕ). is_beyond (list_of m i) n (held_in_table table t i)) (round-cut m v cuts table i
    r l)
    ∙ ap (is_beyond (list_of m i) (next_cut m cuts i)) (r.each t i lt l)

-- the first changed turn, read from the table
pub round-changed : (m : Problem) → IsValid m
    → (cuts : List ℕ) (table : List (List (Option ℕ))) (t : ℕ) → IsRound m cuts table → t < m.types
    → unwrap_or (changed_turn m (held_in_table table) cuts t) (length (order_of m t))
    ≡ first_changed m (tentative m cuts) cuts t
unfolding changed_turn first_changed
round-changed m v cuts table t r lt =
    let f = is_cut_away m (held_in_table table) cuts t in
    let g = is_cut_away m (tentative m cuts) cuts t in
    let n = length (order_of m t) in
    let same =
    position_agree f g (order_of m t)
    (λ j lj. away-agree m v cuts table t (slice_index (order_of m t) j) r lt
    (v.order_entries t j lt lj)) in
    let le = Rattle.std.proofs.lemmas.List.Sums.prefix_len-le-length (λ i. not (f i)) (order_of m
    t) in
    ⊎_elim
    (λ l. ap (λ (b : Bool). unwrap_or (cond b (Some (position_or_len f (order_of m t))) None) n)
    (lt-ltb (position_or_len f (order_of m t)) n l) ∙ same)
    (λ ge. let e : n ≡ position_or_len f (order_of m t) = omega arith in
    ap (λ (b : Bool). unwrap_or (cond b (Some (position_or_len f (order_of m t))) None) n)
    (le-ltb (position_or_len f (order_of m t)) n ge)
    ∙ e ∙ same)
    (cases_lt (position_or_len f (order_of m t)) n)

-- ---- the rows

-- in an empty table no turn is run
pub run-none : (m : Problem) (cuts : List ℕ) (t : ℕ) (table : List (List (Option ℕ)))
    → table ≡ empty_table m → t < m.types → IsRunUpto m cuts t 0 (slice_index_or table t [])
unfolding empty_table
run-none m cuts t table e lt =
    let row = ap (λ (xs : List (List (Option ℕ))). get_or xs t []) e
    ∙ get_or-replicate m.types t (replicate {A = Option ℕ} (length m.lists) None) [] lt in
    record {
      candidates =
          ap (λ (xs : List (Option ℕ)). length xs) row
          ∙ length-replicate {A = Option ℕ} (length m.lists) None;
      run = λ i l h. absurd (omega arith);
      idle = λ i l h. ap (λ (xs : List (Option ℕ)). get_or xs i None) row
          ∙ none_at (length m.lists) i;
    }

-- an empty table has a row for each type
pub empty_table-count : (m : Problem) (table : List (List (Option ℕ))) → table ≡ empty_table m
    → length table ≡ m.types
unfolding empty_table
empty_table-count m table e =
    ap (λ (xs : List (List (Option ℕ))). length xs) e
    ∙ length-replicate {A = List (Option ℕ)} m.types (replicate (length m.lists) None)

-- the kept choices of the round before are those of the next one
pub run-kept : (m : Problem) → IsValid m → (cuts : List ℕ) (table : List (List (Option ℕ))) (t : ℕ)
    → IsRound m cuts table → t < m.types
    → IsRunUpto m (next_cuts m cuts) t (first_changed m (tentative m cuts) cuts t)
    (slice_index_or table t [])
run-kept m v cuts table t r lt =
    let k = keeps_upto m v cuts t in
    record {
      candidates = r.candidates t lt;
      run = λ i l h. r.each t i lt l ∙ sym (k.tentative' i h);
      idle = λ i l h. r.each t i lt l ∙ no_turn_none m cuts t i h;
    }

-- one turn more: its candidate gets its pick
pub run-more : (m : Problem) → IsValid m
    → (cuts : List ℕ) (t k : ℕ) (row : List (Option ℕ)) (x : Option ℕ) → t < m.types
    → k < length (order_of m t) → IsRunUpto m cuts t k row
    → x ≡ pick (type_dictatorship m cuts t) k
    → IsRunUpto m cuts t (k + 1) (set row (slice_index (order_of m t) k) x)
run-more m v cuts t k row x lt l f e =
    let c = slice_index (order_of m t) k in
    let at = turn_at m v t k lt l in
    let own : turn_of m t c < length (order_of m t) = omega arith in
    let lc = v.order_entries t k lt l in
    let n = f.candidates in
    record {
      candidates = length-set row c x ∙ f.candidates;
      run = λ i li h.
          ⊎_elim
          (λ same.
          ap (held_by (set row c x)) same
          ∙ get_or-set_same row c x None (omega arith)
          ∙ e
          ∙ ap (pick (type_dictatorship m cuts t)) (sym at)
          ∙ sym (tentative-pick m cuts t c own)
          ∙ ap (tentative m cuts t) (sym same))
          (λ ne.
          let other : turn_of m t i ≢ k =
          λ z. ne (sym (candidate_at m t i (omega arith))
          ∙ ap (slice_index (order_of m t)) z) in
          get_or-set_other row c i x None ne ∙ f.run i li (omega arith))
          (cases_eq i c);
      idle = λ i li h.
          ⊎_elim
          (λ same. let z = ap (turn_of m t) same in absurd (omega arith))
          (λ ne. get_or-set_other row c i x None ne ∙ f.idle i li h)
          (cases_eq i c);
    }

-- rows in which all turns are run are the table of the round
pub round-rows : (m : Problem) (cuts : List ℕ) (table : List (List (Option ℕ)))
    → length table ≡ m.types
    → ((t : ℕ) → t < m.types → IsRunUpto m cuts t (length (order_of m t)) (slice_index_or table t
    []))
    → IsRound m cuts table
round-rows m cuts table n f = record {
  types = n;
  candidates = λ t l. (f t l).candidates;
  each = λ t i lt l.
      ⊎_elim
      (λ inside. (f t lt).run i l inside)
      (λ past. (f t lt).idle i l past ∙ sym (no_turn_none m cuts t i past))
      (cases_lt (turn_of m t i) (length (order_of m t)));
}

-- ---- the seats of the kept choices

-- no turn keeps no seat
kept-zero : (m : Problem) (c : ℕ → ℕ → Option ℕ) (t p : ℕ) → kept_seats m c t 0 p ≡ 0
unfolding kept_seats
kept-zero m c t p = refl

-- the seats that one turn more keeps
kept-suc : (m : Problem) (c : ℕ → ℕ → Option ℕ) (t k p : ℕ)
    → kept_seats m c t (suc k) p
    ≡ kept_seats m c t k p + cond (is_programme p (c t (slice_index (order_of m t) k))) 1 0
unfolding kept_seats
kept-suc m c t k p = refl

-- what a turn's candidate has kept is what the turn picks
pub kept_at : (m : Problem) → IsValid m
    → (cuts : List ℕ) (table : List (List (Option ℕ))) (t k j : ℕ) → t < m.types
    → k ≤ length (order_of m t) → j < k → IsRunUpto m cuts t k (slice_index_or table t [])
    → held_in_table table t (slice_index (order_of m t) j) ≡ pick (type_dictatorship m cuts t) j
kept_at m v cuts table t k j lt le l f =
    let i = slice_index (order_of m t) j in
    let at = turn_at m v t j lt (omega arith) in
    f.run i (v.order_entries t j lt (omega arith)) (omega arith)
    ∙ tentative-pick m cuts t i (omega arith)
    ∙ ap (pick (type_dictatorship m cuts t)) at

-- where the kept choices are the picks, they keep the seats that are taken
kept_seats-seats_taken : (m : Problem) (c : ℕ → ℕ → Option ℕ) (cuts : List ℕ) (t p k : ℕ)
    → ((j : ℕ) → j < k → c t (slice_index (order_of m t) j) ≡ pick (type_dictatorship m cuts t) j)
    → kept_seats m c t k p ≡ seats_taken (type_dictatorship m cuts t) k p
kept_seats-seats_taken m c cuts t p zero h =
    kept-zero m c t p ∙ sym (seats_taken-zero (type_dictatorship m cuts t) p)
kept_seats-seats_taken m c cuts t p (suc k) h =
    let d = type_dictatorship m cuts t in
    let ih = kept_seats-seats_taken m c cuts t p k (λ j l. h j (omega arith)) in
    let a = kept-suc m c t k p in
    let b = seats_taken-suc d k p in
    let e = ap (λ (o : Option ℕ). cond {A = ℕ} (is_programme p o) 1 0) (h k (omega arith)) in
    omega arith

-- what the rerun of a type starts with
pub kept_fills : (m : Problem) → IsValid m
    → (cuts fill : List ℕ) (table : List (List (Option ℕ))) (t k : ℕ) → t < m.types
    → k ≤ length (order_of m t) → IsRunUpto m cuts t k (slice_index_or table t [])
    → IsKeptFill m (held_in_table table) t k fill → IsFillBefore m cuts t k fill
kept_fills m v cuts fill table t k lt le f s j l =
    s.each j l
    ∙ kept_seats-seats_taken m (held_in_table table) cuts t (slice_index (programmes_of m t) j) k
    (λ i li. kept_at m v cuts table t k i lt le li f)

-- these seats are a fill
pub kept_fill-fits : (m : Problem) (cuts fill : List ℕ) (t k : ℕ)
    → length fill ≡ length (programmes_of m t) → IsFillBefore m cuts t k fill → IsFill m t fill
kept_fill-fits m cuts fill t k n h = record {
  programmes = n;
  within = λ j l.
      let p = slice_index (programmes_of m t) j in
      let z = type-fill m cuts t p in
      let q = type-quota m cuts t p in
      let b = seats_taken-le-quota (type_dictatorship m cuts t) p (omega arith) k in
      let e = h j l in
      omega arith;
}

-- a kept choice is a programme of the type
pub kept_kind : (m : Problem) → IsValid m
    → (cuts : List ℕ) (table : List (List (Option ℕ))) (t k j p : ℕ) → t < m.types
    → k ≤ length (order_of m t) → j < k → IsRunUpto m cuts t k (slice_index_or table t [])
    → held_in_table table t (slice_index (order_of m t) j) ≡ Some p
    → (p < length m.programmes) × (kind_of m p ≡ t)
kept_kind m v cuts table t k j p lt le l f e =
    let i = slice_index (order_of m t) j in
    let at = turn_at m v t j lt (omega arith) in
    let li = v.order_entries t j lt (omega arith) in
    let took = tentative-takes m cuts t i p (sym (f.run i li (omega arith)) ∙ e) in
    let b = v.list_entries i (place_of p (list_of m i)) li took.listed in (
      subst (λ (q : ℕ). q < length m.programmes) (place_get p (list_of m i) 0 took.listed) b,
      took.kind,
    )

-- ---- counting the kept choices

-- before the first turn nothing is kept
pub IsKeptFill-none : (m : Problem) (c : ℕ → ℕ → Option ℕ) (t : ℕ) (fill : List ℕ)
    → fill ≡ replicate (length (programmes_of m t)) 0 → IsKeptFill m c t 0 fill
IsKeptFill-none m c t fill e = record {
  programmes = ap (λ (xs : List ℕ). length xs) e ∙ length-replicate (length (programmes_of m t)) 0;
  each = λ j l. ap (λ (xs : List ℕ). slice_index xs j) e
      ∙ get_or-replicate (length (programmes_of m t)) j 0 0 l
      ∙ sym (kept-zero m c t (slice_index (programmes_of m t) j));
}

-- the same at the next turn, as a sum
kept_next : (m : Problem) (c : ℕ → ℕ → Option ℕ) (t k : ℕ) (fill : List ℕ)
    → IsKeptFill m c t (suc k) fill → IsKeptFill m c t (k + 1) fill
kept_next m c t k fill f = let e : suc k ≡ k + 1 = omega arith in
    subst (λ (n : ℕ). IsKeptFill m c t n fill) e f

-- the place of a programme among its type is its local number
member-number : (m : Problem) (t j p : ℕ) → j < length (programmes_of m t)
    → p ≡ slice_index (programmes_of m t) j → j ≡ local_of m p
member-number m t j p l e = sym (local_member m t j l) ∙ ap (local_of m) (sym e)

-- a turn that keeps a programme keeps a seat of it
pub IsKeptFill-take : (m : Problem) (c : ℕ → ℕ → Option ℕ) (t k p : ℕ) (fill : List ℕ)
    → p < length m.programmes → kind_of m p ≡ t → c t (slice_index (order_of m t) k) ≡ Some p
    → IsKeptFill m c t k fill
    → IsKeptFill m c t (k + 1) (set fill (local_of m p) (slice_index fill (local_of m p) + 1))
IsKeptFill-take m c t k p fill l kp e f =
    let q = local_of m p in
    let lq = local_lt m t p l kp in
    let back = local_back m t p l kp in
    let n = f.programmes in
    kept_next m c t k _ (record {
      programmes = length-set fill q (slice_index fill q + 1) ∙ f.programmes;
      each = λ j lj.
          let a = kept-suc m c t k (slice_index (programmes_of m t) j) in
          let here = f.each j lj in
          ⊎_elim
          (λ same.
          let w = get_or-set_same fill q (slice_index fill q + 1) 0 (omega arith) in
          let w' = ap (slice_index (set fill q (slice_index fill q + 1))) same in
          let g = ap (slice_index fill) same in
          let at = ap (slice_index (programmes_of m t)) same ∙ back in
          let one = one_more (is_programme (slice_index (programmes_of m t) j)
          (c t (slice_index (order_of m t) k)))
          (ap (λ (r : ℕ). is_programme r (c t (slice_index (order_of m t) k))) at
          ∙ ap (is_programme p) e ∙ is_programme-same p) in
          omega arith)
          (λ ne.
          let w = get_or-set_other fill q j (slice_index fill q + 1) 0 ne in
          let other : p ≢ slice_index (programmes_of m t) j = λ z. ne (member-number m t j p lj z)
          in
          let none = no_more (is_programme (slice_index (programmes_of m t) j)
          (c t (slice_index (order_of m t) k)))
          (ap (is_programme (slice_index (programmes_of m t) j)) e
          ∙ ne_eqb p (slice_index (programmes_of m t) j) other) in
          omega arith)
          (cases_eq j q);
    })

-- a turn that keeps none keeps no seat
pub IsKeptFill-pass : (m : Problem) (c : ℕ → ℕ → Option ℕ) (t k : ℕ) (fill : List ℕ)
    → c t (slice_index (order_of m t) k) ≡ None → IsKeptFill m c t k fill
    → IsKeptFill m c t (k + 1) fill
IsKeptFill-pass m c t k fill e f =
    kept_next m c t k fill (record {
      programmes = f.programmes;
      each = λ j lj.
          let a = kept-suc m c t k (slice_index (programmes_of m t) j) in
          let here = f.each j lj in
          let none = no_more (is_programme (slice_index (programmes_of m t) j)
          (c t (slice_index (order_of m t) k)))
          (ap (is_programme (slice_index (programmes_of m t) j)) e) in
          omega arith;
    })

-- no more seats are kept than there are turns
pub kept-le : (m : Problem) (c : ℕ → ℕ → Option ℕ) (t k p : ℕ) → kept_seats m c t k p ≤ k
unfolding kept_seats
kept-le m c t k p =
    Rattle.market.proofs.Members.count_le (λ j. is_programme p (c t (slice_index (order_of m t) j)))
    k

-- what a turn takes fits the number that keeps it
pub pick-small : (m : Problem) → IsValid m → (cuts : List ℕ) (t k : ℕ) (x : Option ℕ)
    → t < m.types → k < length (order_of m t) → x ≡ pick (type_dictatorship m cuts t) k
    → FitsNumber x
pick-small m v cuts t k None lt l e = tt
pick-small m v cuts t k (Some p) lt l e =
    let i = slice_index (order_of m t) k in
    let at = turn_at m v t k lt l in
    let li = v.order_entries t k lt l in
    let took =
    tentative-takes m cuts t i p
    (tentative-pick m cuts t i (omega arith) ∙ ap (pick (type_dictatorship m cuts t)) at
    ∙ sym e) in
    let b = v.list_entries i (place_of p (list_of m i)) li took.listed in
    let q = place_get p (list_of m i) 0 took.listed in
    let n = v.programmes in
    omega arith
