-- What a report says of every stable placement: since all of them leave the same candidates without
-- a programme and fill the same numbers of seats, the report of one is that of each.
use Rattle.std.proofs.Common.{◌≡◌, ℕ, zero, suc, ◌+◌, ◌<◌, Bool, true, cond, List, [], ◌∷◌, ◌++◌, length, Option, Some, None, refl, sym, ap, ◌∙◌, subst, arith, map, ⊎_elim}
use Rattle.std.specs.Prelude.{Contains, filter, is_none, is_some, slice_index, ◌↔◌}
use Rattle.std.specs.List.{range_with_len}
use Rattle.std.specs.List.Sorted.{IsStrictlyIncreasing}
use Rattle.std.proofs.lemmas.Bool.{cases_lt}
use Rattle.std.proofs.lemmas.List.Elements.{All-contains, Contains-append_left, Contains-push, filter-append, filter_agree, filter_passes}
use Rattle.std.proofs.lemmas.List.FromFn.{get_or-map-range_with_len, get_or-range_with_len, length-map-range_with_len, length-range_with_len, fill_by_all}
use Rattle.std.proofs.lemmas.List.Kept.{IsStrictlyIncreasing-filter}
use Rattle.market.specs.Counting.{count_of}
use Rattle.market.specs.Mechanism.{mechanism_placement}
use Rattle.market.specs.Problems.{Problem, IsValid}
use Rattle.market.specs.Stability.{held_by, IsStable}
use Rattle.market.proofs.Members.{range_more}
use Rattle.stable_laws.proofs.Stable.{stable}
use Rattle.fixed_seats.specs.Shared.{FillsAlike}
use Rattle.fixed_seats.specs.Reports.{Seats, IsOfEveryStable, holder_counts, seats_in, unplaced_in}
use Rattle.fixed_seats.proofs.Shared.{fills_as_mechanism}

-- ---- numbers that pass a test

-- numbers from 0 on rise
rising_range : (n : ℕ) → IsStrictlyIncreasing (range_with_len 0 n)
rising_range n k l =
    let size = length-range_with_len 0 n in
    let one = get_or-range_with_len 0 n k 0 (omega arith) in
    let next = get_or-range_with_len 0 n (k + 1) 0 (omega arith) in
    omega arith

-- a number that passes is kept
kept : (f : ℕ → Bool) (n i : ℕ) → i < n → f i ≡ true → Contains (filter f (range_with_len 0 n)) i
kept f zero i l passes = absurd (omega arith)
kept f (suc n) i l passes =
    let next : suc n ≡ n + 1 = omega arith in
    let split = ap (λ (k : ℕ). filter f (range_with_len 0 k)) next ∙ ap (filter f) (range_more n)
    ∙ filter-append f (range_with_len 0 n) (n ∷ []) in
    subst (λ (xs : List ℕ). Contains xs i) (sym split)
    (⊎_elim
    (λ before. Contains-append_left (filter f (range_with_len 0 n)) (filter f (n ∷ [])) i
    (kept f n i before passes))
    (λ last.
    let here : i ≡ n = omega arith in
    subst (λ (b : Bool). Contains (filter f (range_with_len 0 n) ++ cond b (n ∷ []) []) i)
    (sym (ap f (sym here) ∙ passes))
    (subst (λ (k : ℕ). Contains (filter f (range_with_len 0 n) ++ k ∷ []) i) here
    (Contains-push (filter f (range_with_len 0 n)) i)))
    (cases_lt i n))

-- ---- the parts of a report

-- who holds nothing holds no programme, and the other way round
none_test : (o : Option ℕ) → is_none o ≡ true → o ≡ None
none_test None e = refl
none_test (Some p) e = absurd (cc e)

same_test : (a b : Option ℕ) → (a ≡ None) ↔ (b ≡ None) → is_none a ≡ is_none b
same_test None b same = ap (λ (o : Option ℕ). is_none o) (sym (same.0 refl))
same_test (Some p) None same = absurd (cc (same.1 refl))
same_test (Some p) (Some q) same = refl

some_test : (o : Option ℕ) → (is_none o ≡ true → ⊥) → is_some o ≡ true
some_test None not_none = absurd (not_none refl)
some_test (Some p) not_none = refl

-- placements that leave and fill alike have the same report
seats-same : (m : Problem) (given other : List (Option ℕ)) → length given ≡ length other
    → FillsAlike given other → seats_in m given ≡ seats_in m other
unfolding unplaced_in holder_counts
seats-same m given other size alike =
    let unplaced = filter_agree (λ i. is_none (held_by given i)) (λ i. is_none (held_by other i))
    (λ i. same_test (held_by given i) (held_by other i) (alike.unplaced i))
    (range_with_len 0 (length given))
    ∙ ap (λ (n : ℕ). filter (λ i. is_none (held_by other i)) (range_with_len 0 n)) size in
    let n = length m.programmes in
    let counts = fill_by_all (λ p. count_of p other)
    (map (λ p. count_of p given) (range_with_len 0 n)) n 0
    (length-map-range_with_len (λ p. count_of p given) 0 n)
    (λ p l. get_or-map-range_with_len (λ q. count_of q given) 0 n p p 0 l (omega arith)
    ∙ sym (alike.holders p)) in
    λ i. record { unplaced = unplaced i; held = counts i }

-- the candidates named rise
unplaced-rise : (held : List (Option ℕ)) → IsStrictlyIncreasing (unplaced_in held)
unfolding unplaced_in
unplaced-rise held =
    IsStrictlyIncreasing-filter (λ i. is_none (held_by held i)) (range_with_len 0 (length held))
    (rising_range (length held))

-- who is named holds nothing
unplaced-none : (held : List (Option ℕ)) (i : ℕ) → Contains (unplaced_in held) i
    → held_by held i ≡ None
unfolding unplaced_in
unplaced-none held i named =
    none_test (held_by held i)
    (All-contains (λ j. is_none (held_by held j) ≡ true)
    (filter (λ j. is_none (held_by held j)) (range_with_len 0 (length held))) i
    (filter_passes (λ j. is_none (held_by held j)) (range_with_len 0 (length held))) named)

-- who is not named holds a programme
unnamed-some : (held : List (Option ℕ)) (i : ℕ) → i < length held
    → (Contains (unplaced_in held) i → ⊥) → is_some (held_by held i) ≡ true
unfolding unplaced_in
unnamed-some held i l unnamed =
    some_test (held_by held i)
    (λ none. unnamed (kept (λ j. is_none (held_by held j)) (length held) i l none))

-- each number is that of the holders
counts-are : (m : Problem) (held : List (Option ℕ)) (p : ℕ) → p < length m.programmes
    → slice_index (holder_counts m held) p ≡ count_of p held
unfolding holder_counts
counts-are m held p l =
    get_or-map-range_with_len (λ q. count_of q held) 0 (length m.programmes) p p 0 l (omega arith)

-- there is one for each programme
counts-count : (m : Problem) (held : List (Option ℕ))
    → length (holder_counts m held) ≡ length m.programmes
unfolding holder_counts
counts-count m held = length-map-range_with_len (λ q. count_of q held) 0 (length m.programmes)

-- ---- the report of the mechanism's placement

pub of_every_stable : (m : Problem) → IsValid m
    → IsOfEveryStable m (seats_in m (mechanism_placement m))
of_every_stable m v =
    let given = mechanism_placement m in
    let own = stable m v in
    let every = λ (held : List (Option ℕ)) (s : IsStable m held).
    let a = own.placement.candidates in
    let b = s.placement.candidates in
    seats-same m given held (omega arith) (fills_as_mechanism m v held s) in
    record {
      some = own;
      every = every;
      programmes = counts-count m given;
      rising = unplaced-rise given;
      never = λ held s i named.
          unplaced-none held i (subst (λ (r : Seats). Contains r.unplaced i) (every held s) named);
      always = λ held s i l unnamed.
          let size = s.placement.candidates in
          unnamed-some held i (omega arith)
          (λ named. unnamed
          (subst (λ (r : Seats). Contains r.unplaced i) (sym (every held s)) named));
      number = λ held s p l.
          sym (ap (λ (r : Seats). slice_index r.held p) (every held s) ∙ counts-are m held p l);
    }
