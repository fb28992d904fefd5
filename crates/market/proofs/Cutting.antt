-- The cut of one round by any choices, candidate by candidate, and the first turn of each type that
-- it changes.
use Rattle.std.proofs.Common.{◌≡◌, ℕ, ◌+◌, ◌<◌, ◌≤◌, Bool, true, false, cond, not, List, length, Option, Some, None, refl, sym, ap, ◌∙◌, subst, arith, set, ⊎_elim}
use Rattle.std.specs.Prelude.{is_some, slice_index}
use Rattle.std.specs.List.{position_or_len}
use Rattle.std.proofs.lemmas.Bool.{cases_lt, cases_eq, cases_Bool, false≢true, lt-ltb, le-ltb, ltb-true}
use Rattle.std.proofs.lemmas.List.{get_or-set_same, get_or-set_other, length-set}
use Rattle.std.proofs.lemmas.List.FromFn.{fill_by_all}
use Rattle.std.proofs.lemmas.List.Sums.{position_or_len_is, prefix_len-le-length}
use Rattle.market.specs.Counting.{is_programme, count_below}
use Rattle.market.specs.Problems.{Problem, IsValid, place_of, programme_at, kind_of, list_of, order_of, turn_of}
use Rattle.market.specs.Mechanism.{IsCuts, has_several_in, best_in, cut_in, cuts_in, several_in}
use Rattle.market.specs.Choices.{held_in_table, IsWithinCuts}
use Rattle.market.specs.Reruns.{is_beyond, is_cut_away, changed_turn, turn_or_none, least_turn, noted}
use Rattle.market.specs.declared.programme.Prog.{Prog}
use Rattle.market.proofs.Turns.{one_more, no_more, is_programme-from, some_from}
use Rattle.market.proofs.Counts.{suc_count, count_some_two}
use Rattle.market.proofs.Tentatives.{turn_at, candidate_at}
use Rattle.market.proofs.Valid.{kind_lt}

-- who has several choices keeps the list up to and with the best of them
pub cut-several : (m : Problem) (c : ℕ → ℕ → Option ℕ) (cuts : List ℕ) (i : ℕ)
    → has_several_in m c i ≡ true → cut_in m c cuts i ≡ best_in m c i + 1
unfolding cut_in
cut-several m c cuts i e = ap (λ (b : Bool). cond b (best_in m c i + 1) (slice_index cuts i)) e

-- who has not keeps the cut
pub cut-same : (m : Problem) (c : ℕ → ℕ → Option ℕ) (cuts : List ℕ) (i : ℕ)
    → has_several_in m c i ≡ false → cut_in m c cuts i ≡ slice_index cuts i
unfolding cut_in
cut-same m c cuts i e = ap (λ (b : Bool). cond b (best_in m c i + 1) (slice_index cuts i)) e

-- ---- the best choice stands within the cut

-- the first place that passes is no later than that of an entry that passes
first-le : (f : ℕ → Bool) (xs : List ℕ) (p : ℕ) → f p ≡ true → place_of p xs < length xs
    → position_or_len f xs ≤ place_of p xs
first-le f xs p t l =
    ⊎_elim
    (λ less.
    let fails = Rattle.std.proofs.lemmas.List.Sums.fails_before_first f xs (place_of p xs) 0 less in
    let at = Rattle.market.proofs.Firsts.place_get p xs 0 l in
    absurd (false≢true (sym fails ∙ ap f at ∙ t)))
    (λ ge. ge)
    (cases_lt (place_of p xs) (position_or_len f xs))

-- the best of several choices stands within the cut
pub best-within : (m : Problem) (table : List (List (Option ℕ))) (cuts : List ℕ) (i : ℕ)
    → IsCuts m cuts → IsWithinCuts m table cuts → i < length m.lists
    → has_several_in m (held_in_table table) i ≡ true
    → best_in m (held_in_table table) i < slice_index cuts i
unfolding has_several_in best_in
best-within m table cuts i f w l e =
    let two = count_some_two (λ t. is_some (held_in_table table t i)) m.types (ltb-true _ _ e) in
    let s = some_from (held_in_table table two.first i) two.first_passes in
    let in_cut = w.within two.first i s.0 s.1 in
    let fits = f.within i l in
    let k = w.kind two.first i s.0 s.1 in
    let t = is_programme-from s.0 (held_in_table table (kind_of m s.0) i)
    (ap (λ (u : ℕ). held_in_table table u i) k ∙ s.1) in
    let h = first-le (λ p. is_programme p (held_in_table table (kind_of m p) i)) (list_of m i) s.0 t
    (omega arith) in
    omega arith

-- who is not cut loses no choice
pub uncut : (m : Problem) (table : List (List (Option ℕ))) (cuts : List ℕ) (t i : ℕ)
    → IsWithinCuts m table cuts → has_several_in m (held_in_table table) i ≡ false
    → is_cut_away m (held_in_table table) cuts t i ≡ false
unfolding is_cut_away
uncut m table cuts t i w e =
    ap (λ (n : ℕ). is_beyond (list_of m i) n (held_in_table table t i))
    (cut-same m (held_in_table table) cuts i e)
    ∙ by_choice (held_in_table table t i) refl
  where
    by_choice : (o : Option ℕ) → held_in_table table t i ≡ o
        → is_beyond (list_of m i) (slice_index cuts i) o ≡ false
    by_choice None h = refl
    by_choice (Some p) h = ap not (lt-ltb _ _ (w.within t i p h))

-- ---- the cuts of the first k candidates

-- the first k candidates have their new cuts, the others the old ones, and those cut are counted
pub record IsCutUpto (m : Problem) (c : ℕ → ℕ → Option ℕ) (old : List ℕ) (k : ℕ) (new : List ℕ)
    (count : ℕ) : Type 0 where
  pub candidates : length new ≡ length m.lists
  pub done : (i : ℕ) → i < k → i < length m.lists → slice_index new i ≡ cut_in m c old i
  pub open' : (i : ℕ) → k ≤ i → slice_index new i ≡ slice_index old i
  pub counted : count ≡ count_below (has_several_in m c) k

-- before the first candidate nothing is cut
pub IsCutUpto-none : (m : Problem) (c : ℕ → ℕ → Option ℕ) (old : List ℕ)
    → length old ≡ length m.lists → IsCutUpto m c old 0 old 0
IsCutUpto-none m c old e =
    record {
      candidates = e;
      done = λ i l h. absurd (omega arith);
      open' = λ i l. refl;
      counted = refl;
    }

-- a candidate who is cut
pub IsCutUpto-cut : (m : Problem) (c : ℕ → ℕ → Option ℕ) (old new : List ℕ) (k n x : ℕ)
    → k < length m.lists → has_several_in m c k ≡ true → x ≡ best_in m c k + 1
    → IsCutUpto m c old k new n → IsCutUpto m c old (k + 1) (set new k x) (n + 1)
IsCutUpto-cut m c old new k n x l s e f =
    let len = f.candidates in
    record {
      candidates = length-set new k x ∙ f.candidates;
      done = λ i li h.
          ⊎_elim
          (λ same. ap (slice_index (set new k x)) same ∙ get_or-set_same new k x 0 (omega arith) ∙ e
          ∙ sym (cut-several m c old k s) ∙ ap (cut_in m c old) (sym same))
          (λ ne. get_or-set_other new k i x 0 ne ∙ f.done i (omega arith) h)
          (cases_eq i k);
      open' = λ i li. get_or-set_other new k i x 0 (λ z. omega arith) ∙ f.open' i (omega arith);
      counted = let one = one_more (has_several_in m c k) s in let a = f.counted in let b =
          suc_count (has_several_in m c) k in omega arith;
    }

-- a candidate who is not
pub IsCutUpto-keep : (m : Problem) (c : ℕ → ℕ → Option ℕ) (old new : List ℕ) (k n : ℕ)
    → has_several_in m c k ≡ false → IsCutUpto m c old k new n → IsCutUpto m c old (k + 1) new n
IsCutUpto-keep m c old new k n s f =
    record {
      candidates = f.candidates;
      done = λ i li h.
          ⊎_elim
          (λ same. ap (slice_index new) same ∙ f.open' k (omega arith) ∙ sym (cut-same m c old k s)
          ∙ ap (cut_in m c old) (sym same))
          (λ ne. f.done i (omega arith) h)
          (cases_eq i k);
      open' = λ i li. f.open' i (omega arith);
      counted = let none = no_more (has_several_in m c k) s in let a = f.counted in let b =
          suc_count (has_several_in m c) k in omega arith;
    }

-- after all candidates these are the cuts and the count of the round
pub IsCutUpto-all : (m : Problem) (c : ℕ → ℕ → Option ℕ) (old new : List ℕ) (k n : ℕ)
    → k ≡ length m.lists → IsCutUpto m c old k new n
    → (new ≡ cuts_in m c old) × (n ≡ several_in m c)
unfolding cuts_in several_in
IsCutUpto-all m c old new k n e f = (
  fill_by_all (cut_in m c old) new (length m.lists) 0 f.candidates (λ i l. f.done i (omega arith)
      l),
  f.counted ∙ ap (count_below (has_several_in m c)) e,
)

-- ---- the first changed turn of a type, over the first k candidates

-- o is the first turn of type t that a cut among the first k candidates changes, if any
pub record IsFirstUpto (m : Problem) (c : ℕ → ℕ → Option ℕ) (old : List ℕ) (t k : ℕ)
    (o : Option ℕ) : Type 0 where
  pub turn : ℕ
  pub is : o ≡ turn_or_none (length (order_of m t)) turn
  pub within : turn ≤ length (order_of m t)
  pub none_before : (i : ℕ) → i < k → is_cut_away m c old t i ≡ true → turn ≤ turn_of m t i
  pub changed : turn < length (order_of m t)
      → is_cut_away m c old t (slice_index (order_of m t) turn) ≡ true

-- a turn that there is
or_none-some : (n k : ℕ) → k < n → turn_or_none n k ≡ Some k
or_none-some n k l = ap (λ (b : Bool). cond b (Some k) None) (lt-ltb k n l)

-- a turn that there is not
or_none-none : (n k : ℕ) → n ≤ k → turn_or_none n k ≡ None
or_none-none n k l = ap (λ (b : Bool). cond b (Some k) None) (le-ltb k n l)

-- before the first candidate no turn has changed
pub IsFirstUpto-none : (m : Problem) (c : ℕ → ℕ → Option ℕ) (old : List ℕ) (t : ℕ) (o : Option ℕ)
    → o ≡ None → IsFirstUpto m c old t 0 o
IsFirstUpto-none m c old t o e = record {
  turn = length (order_of m t);
  is = e ∙ sym (or_none-none (length (order_of m t)) (length (order_of m t)) (omega arith));
  within = omega arith;
  none_before = λ i l h. absurd (omega arith);
  changed = λ l. absurd (omega arith);
}

-- a candidate that loses no choice of the type
pub IsFirstUpto-keep : (m : Problem) (c : ℕ → ℕ → Option ℕ) (old : List ℕ) (t k : ℕ) (o : Option ℕ)
    → is_cut_away m c old t k ≡ false → IsFirstUpto m c old t k o → IsFirstUpto m c old t (k + 1) o
IsFirstUpto-keep m c old t k o e f = record {
  turn = f.turn;
  is = f.is;
  within = f.within;
  none_before = λ i l h.
      ⊎_elim
      (λ same. absurd (false≢true (sym e ∙ ap (is_cut_away m c old t) (sym same) ∙ h)))
      (λ ne. f.none_before i (omega arith) h)
      (cases_eq i k);
  changed = f.changed;
}

-- the least of the turns so far and one more
least-first : (n x : ℕ) (o : Option ℕ) (k : ℕ) → o ≡ turn_or_none n x → k < n → x ≤ n
    → (x ≤ k → Some (least_turn o k) ≡ Some x) × (k ≤ x → Some (least_turn o k) ≡ Some k)
least-first n x o k e l w =
    ⊎_elim
    (λ inside.
    let s = e ∙ or_none-some n x inside in
    let at = ap (λ (y : Option ℕ). Some (least_turn y k)) s in (
      λ le. at ∙ ⊎_elim (λ less. ap (λ (b : Bool). Some (cond b x k)) (lt-ltb x k less))
          (λ ge. let same : k ≡ x =
          omega arith in ap (λ (b : Bool). Some (cond b x k)) (le-ltb x k ge)
          ∙ ap Some same) (cases_lt x k),
      λ le. at ∙ ap (λ (b : Bool). Some (cond b x k)) (le-ltb x k le),
    ))
    (λ past.
    let s = e ∙ or_none-none n x past in
    let at = ap (λ (y : Option ℕ). Some (least_turn y k)) s in
    (λ le. absurd (omega arith), λ le. at))
    (cases_lt x n)

-- a candidate that loses one
pub IsFirstUpto-note : (m : Problem) (c : ℕ → ℕ → Option ℕ) (old : List ℕ) (t k : ℕ) (o : Option ℕ)
    → turn_of m t k < length (order_of m t) → is_cut_away m c old t k ≡ true
    → IsFirstUpto m c old t k o
    → IsFirstUpto m c old t (k + 1) (Some (least_turn o (turn_of m t k)))
IsFirstUpto-note m c old t k o l e f =
    let n = length (order_of m t) in
    let turn = turn_of m t k in
    let both = least-first n f.turn o turn f.is l f.within in
    ⊎_elim
    (λ before. record {
      turn = f.turn;
      is = both.0 (omega arith) ∙ sym (or_none-some n f.turn (omega arith));
      within = f.within;
      none_before = λ i li h.
          ⊎_elim
          (λ same. let s = ap (turn_of m t) same in omega arith)
          (λ ne. f.none_before i (omega arith) h)
          (cases_eq i k);
      changed = f.changed;
    })
    (λ after. record {
      turn = turn;
      is = both.1 after ∙ sym (or_none-some n turn l);
      within = omega arith;
      none_before = λ i li h.
          ⊎_elim
          (λ same. let s = ap (turn_of m t) same in omega arith)
          (λ ne. let b = f.none_before i (omega arith) h in omega arith)
          (cases_eq i k);
      changed = λ lt. ap (is_cut_away m c old t) (candidate_at m t k l) ∙ e;
    })
    (cases_lt f.turn turn)

-- what stands beyond a cut is a programme
some_away : (list : List ℕ) (cut : ℕ) (o : Option ℕ) → is_beyond list cut o ≡ true
    → (p : ℕ) × (o ≡ Some p)
some_away list cut None e = absurd (false≢true e)
some_away list cut (Some p) e = (p, refl)

-- a choice that is cut away is a programme
away_some : (m : Problem) (table : List (List (Option ℕ))) (old : List ℕ) (t k : ℕ)
    → is_cut_away m (held_in_table table) old t k ≡ true → (p : ℕ) × (held_in_table table t k ≡ Some
    p)
unfolding is_cut_away
away_some m table old t k h =
    some_away (list_of m k) (cut_in m (held_in_table table) old k) (held_in_table table t k) h

-- a candidate who is cut, and whose choice in the type may be cut away
pub IsFirstUpto-cut : (m : Problem) (table : List (List (Option ℕ))) (old : List ℕ) (t k : ℕ)
    (o new : Option ℕ)
    → IsWithinCuts m table old
    → new ≡ noted (is_cut_away m (held_in_table table) old t k) o (turn_of m t k)
    → IsFirstUpto m (held_in_table table) old t k o → IsFirstUpto m (held_in_table table) old t (k +
    1) new
IsFirstUpto-cut m table old t k o new w e f =
    ⊎_elim
    (λ yes'.
    let away = away_some m table old t k yes' in
    subst (IsFirstUpto m (held_in_table table) old t (k + 1))
    (sym (e ∙ ap (λ (b : Bool). noted b o (turn_of m t k)) yes'))
    (IsFirstUpto-note m (held_in_table table) old t k o (w.turn t k away.0 away.1) yes' f))
    (λ no'.
    subst (IsFirstUpto m (held_in_table table) old t (k + 1))
    (sym (e ∙ ap (λ (b : Bool). noted b o (turn_of m t k)) no'))
    (IsFirstUpto-keep m (held_in_table table) old t k o no' f))
    (cases_Bool (is_cut_away m (held_in_table table) old t k))

-- after all candidates this is the first changed turn of the type
pub IsFirstUpto-all : (m : Problem) → IsValid m
    → (c : ℕ → ℕ → Option ℕ) (old : List ℕ) (t k : ℕ) (o : Option ℕ)
    → k ≡ length m.lists → IsFirstUpto m c old t k o → o ≡ changed_turn m c old t
unfolding changed_turn
IsFirstUpto-all m v c old t k o e f =
    let n = length (order_of m t) in
    let away = is_cut_away m c old t in
    let at = position_or_len_is away (order_of m t) f.turn 0 f.within
    (λ j lj.
    let i = slice_index (order_of m t) j in
    let lt = kind_lt m v t j (omega (arith, f.within)) in
    let li = v.order_entries t j lt (omega (arith, f.within)) in
    let back = turn_at m v t j lt (omega (arith, f.within)) in
    ⊎_elim
    (λ t'. let h = f.none_before i (omega arith) t' in absurd (omega arith))
    (λ f'. f')
    (cases_Bool (away i)))
    f.changed in
    f.is ∙ ap (turn_or_none n) (sym at)

-- the best place is at most the list's length
pub best-le : (m : Problem) (c : ℕ → ℕ → Option ℕ) (i : ℕ) → best_in m c i ≤ length (list_of m i)
unfolding best_in
best-le m c i = prefix_len-le-length (λ p. not (is_programme p (c (kind_of m p) i))) (list_of m i)

-- the type of a programme that is looked up
pub kind-is : (m : Problem) (p : ℕ) (q : Prog) → q ≡ programme_at m p → q.kind ≡ kind_of m p
unfolding kind_of
kind-is m p q e = ap (λ (x : Prog). x.kind) e
