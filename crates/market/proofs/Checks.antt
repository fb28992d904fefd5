-- Tests that compute whether a problem or a dictatorship that is written out is valid. To show that
-- one is, cite `valid_from` with `refl` for each test, under an `unfolding` line with the tests and
-- `computes`.
use Rattle.std.proofs.Common.{◌≡◌, ℕ, zero, suc, ◌<◌, Bool, true, not, ◌&&◌, eqb, ltb, leb, List, length, Option, Some, None, refl, sym, ap, ◌∙◌, arith, ⊎_elim, subst, [], ◌∷◌}
use Rattle.std.specs.Prelude.{slice_index}
use Rattle.std.proofs.lemmas.Bool.{and_parts, cases_lt, ltb-true, leb-true, eqb-true, eq-eqb, false≢true, not-true}
use Rattle.market.specs.declared.programme.Prog.{Prog}
use Rattle.market.specs.declared.limits.TheConstants.{MAX_TYPES, MAX_PROGRAMMES, MAX_CANDIDATES, MAX_ENTRIES, MAX_QUOTA, MAX_RANK}
use Rattle.market.specs.Problems.{Problem, problem, IsValid, IsBar, HasNoRepeats, kind_of, quota_of, bar_of, list_of, order_of, ranks_of}
use Rattle.market.specs.Dictatorships.{Dictatorship, dictatorship, IsValidDictatorship, list_at}
use Rattle.market.specs.Examples.{exchange, freed_seat, three_rounds, rank_bars, two_turns}
use Rattle.market.proofs.Computes.{computes}

-- whether all numbers below n pass the test
abbrev pub all_below : (ℕ → Bool) → ℕ → Bool
all_below f zero = true
all_below f (suc n) = all_below f n && f n

-- then each of them does
pub all_below_at : (f : ℕ → Bool) (n i : ℕ) → all_below f n ≡ true → i < n → f i ≡ true
all_below_at f zero i e l = absurd (omega arith)
all_below_at f (suc n) i e l =
    let b = and_parts (all_below f n) (f n) e in
    ⊎_elim
    (λ less. all_below_at f n i b.0 less)
    (λ more. let s : n ≡ i = omega arith in ap f (sym s) ∙ b.1)
    (cases_lt i n)

-- whether no two entries are equal
abbrev pub all_apart : List ℕ → Bool
all_apart xs =
    all_below (λ j. all_below (λ i. not (eqb (slice_index xs i) (slice_index xs j))) j) (length xs)

-- then there are no repeats
pub distinct_from : (xs : List ℕ) → all_apart xs ≡ true → HasNoRepeats xs
distinct_from xs e i j l lj same =
    let a = all_below_at (λ j. all_below (λ i. not (eqb (slice_index xs i) (slice_index xs j))) j)
    (length xs) j e lj in
    let b = all_below_at (λ i. not (eqb (slice_index xs i) (slice_index xs j))) j i a l in
    false≢true (sym (not-true (eqb (slice_index xs i) (slice_index xs j)) b)
    ∙ eq-eqb (slice_index xs i) (slice_index xs j) same)

-- whether each entry is more than those before it
abbrev pub all_rise : List ℕ → Bool
all_rise xs = all_below (λ k. all_below (λ j. ltb (slice_index xs j) (slice_index xs k)) k) (length
    xs)

-- whether a bar, if there is one, is in the range of ranks
abbrev pub bar_fits : Option ℕ → Bool
bar_fits None = true
bar_fits (Some bar) = leb 1 bar && leb bar MAX_RANK

-- then it is a bar
bar-from : (bar : Option ℕ) → bar_fits bar ≡ true → IsBar bar
bar-from None e = tt
bar-from (Some bar) e =
    let b = and_parts (leb 1 bar) (leb bar MAX_RANK) e in
    (leb-true _ _ b.0, leb-true _ _ b.1)

-- whether each programme's type, quota and bar are in range
unfoldable pub programmes_fit : Problem → Bool
programmes_fit m =
    all_below (λ p. (ltb (kind_of m p) m.types && leb (quota_of m p) MAX_QUOTA)
    && bar_fits (bar_of m p)) (length m.programmes)

-- whether each list is short, names programmes, and names none twice
unfoldable pub lists_fit : Problem → Bool
lists_fit m = all_below (λ i. leb (length (list_of m i)) MAX_ENTRIES
    && (all_below (λ k. ltb (slice_index (list_of m i) k) (length m.programmes))
    (length (list_of m i)) && all_apart (list_of m i))) (length m.lists)

-- whether each order names candidates, none twice, and has as many ranks
unfoldable pub orders_fit : Problem → Bool
orders_fit m =
    all_below (λ t. (all_below (λ k. ltb (slice_index (order_of m t) k) (length m.lists))
    (length (order_of m t)) && all_apart (order_of m t))
    && eqb (length (ranks_of m t)) (length (order_of m t))) m.types

-- whether the ranks of each type rise and are in range
unfoldable pub ranks_fit : Problem → Bool
ranks_fit m = all_below (λ t. all_rise (ranks_of m t)
    && all_below (λ k. leb 1 (slice_index (ranks_of m t) k)
    && leb (slice_index (ranks_of m t) k) MAX_RANK) (length (ranks_of m t))) m.types

-- whether the counts are in range and agree
unfoldable pub counts_fit : Problem → Bool
counts_fit m =
    (leb m.types MAX_TYPES && leb (length m.programmes) MAX_PROGRAMMES)
    && (leb (length m.lists) MAX_CANDIDATES
    && (eqb (length m.orders) m.types && eqb (length m.ranks) m.types))

-- a problem that passes these tests is valid
pub valid_from : (m : Problem) → counts_fit m ≡ true → programmes_fit m ≡ true → lists_fit m ≡ true
    → orders_fit m ≡ true → ranks_fit m ≡ true → IsValid m
unfolding counts_fit programmes_fit lists_fit orders_fit ranks_fit
valid_from m c p l o r =
    let c0 = and_parts _ _ c in
    let c1 = and_parts _ _ c0.0 in
    let c2 = and_parts _ _ c0.1 in
    let c3 = and_parts _ _ c2.1 in
    record {
      types = leb-true _ _ c1.0;
      programmes = leb-true _ _ c1.1;
      candidates = leb-true _ _ c2.0;
      orders = eqb-true _ _ c3.0;
      ranks = eqb-true _ _ c3.1;
      kinds =
          λ q lq. ltb-true _ _ (and_parts _ _ (and_parts _ _ (all_below_at _ _ q p lq)).0).0;
      quotas =
          λ q lq. leb-true _ _ (and_parts _ _ (and_parts _ _ (all_below_at _ _ q p lq)).0).1;
      bars = λ q lq. bar-from (bar_of m q) (and_parts _ _ (all_below_at _ _ q p lq)).1;
      list_lengths = λ i li. leb-true _ _ (and_parts _ _ (all_below_at _ _ i l li)).0;
      list_entries =
          λ i k li lk. ltb-true _ _
          (all_below_at _ _ k (and_parts _ _ (and_parts _ _ (all_below_at _ _ i l li)).1).0 lk);
      list_distinct =
          λ i li. distinct_from _ (and_parts _ _ (and_parts _ _ (all_below_at _ _ i l li)).1).1;
      order_entries =
          λ t k lt lk. ltb-true _ _
          (all_below_at _ _ k (and_parts _ _ (and_parts _ _ (all_below_at _ _ t o lt)).0).0 lk);
      order_distinct =
          λ t lt. distinct_from _ (and_parts _ _ (and_parts _ _ (all_below_at _ _ t o lt)).0).1;
      rank_lengths = λ t lt. eqb-true _ _ (and_parts _ _ (all_below_at _ _ t o lt)).1;
      ranks_rise =
          λ t j k lt lj lk. ltb-true _ _
          (all_below_at _ _ j (all_below_at _ _ k (and_parts _ _ (all_below_at _ _ t r lt)).0 lk)
          lj);
      rank_limits = λ t k lt lk. let b =
          and_parts _ _ (all_below_at _ _ k (and_parts _ _ (all_below_at _ _ t r lt)).1 lk) in
          (leb-true _ _ b.0, leb-true _ _ b.1);
    }

-- the worked examples are valid problems
pub exchange_valid : IsValid exchange
unfolding computes counts_fit programmes_fit lists_fit orders_fit ranks_fit
exchange_valid = valid_from exchange refl refl refl refl refl

-- so is the second
pub freed_seat_valid : IsValid freed_seat
unfolding computes counts_fit programmes_fit lists_fit orders_fit ranks_fit
freed_seat_valid = valid_from freed_seat refl refl refl refl refl

-- so is the third
pub three_rounds_valid : IsValid three_rounds
unfolding computes counts_fit programmes_fit lists_fit orders_fit ranks_fit
three_rounds_valid = valid_from three_rounds refl refl refl refl refl

-- so is the one with bars
pub rank_bars_valid : IsValid rank_bars
unfolding computes counts_fit programmes_fit lists_fit orders_fit ranks_fit
rank_bars_valid = valid_from rank_bars refl refl refl refl refl

-- a market that is built of these parts is valid where they are those of a valid problem
pub parts_valid : (m : Problem) (programmes : List Prog) (lists orders ranks : List (List ℕ))
    → IsValid m → programmes ≡ m.programmes → lists ≡ m.lists → orders ≡ m.orders → ranks ≡ m.ranks
    → IsValid (problem m.types programmes lists orders ranks)
parts_valid m programmes lists orders ranks v p l o r =
    let same : m ≡ problem m.types programmes lists orders ranks
    = λ i. problem m.types (sym p i) (sym l i) (sym o i) (sym r i) in
    subst IsValid same v

-- two equal items make equal lists
pub two_items : {A : Type 0} (x y u v : A) (all : List A) → all ≡ x ∷ y ∷ [] → x ≡ u → y ≡ v
    → all ≡ u ∷ v ∷ []
two_items x y u v all e a b = e ∙ (λ i. a i ∷ b i ∷ [])

-- and so do three
pub three_items : {A : Type 0} (x y z u v w : A) (all : List A) → all ≡ x ∷ y ∷ z ∷ [] → x ≡ u
    → y ≡ v → z ≡ w → all ≡ u ∷ v ∷ w ∷ []
three_items x y z u v w all e a b c = e ∙ (λ i. a i ∷ b i ∷ c i ∷ [])

-- ---- dictatorships that are written out

-- whether quotas and fills are in range and agree
unfoldable pub dictatorship_fits : Dictatorship → Bool
dictatorship_fits d =
    (eqb (length d.fill) (length d.quota) && leb (length d.quota) MAX_PROGRAMMES)
    && (leb (length d.lists) MAX_CANDIDATES
    && all_below (λ p. leb (slice_index d.quota p) MAX_QUOTA
    && leb (slice_index d.fill p) (slice_index d.quota p)) (length d.quota))

-- whether each turn's list is short and names programmes
unfoldable pub turn_lists_fit : Dictatorship → Bool
turn_lists_fit d =
    all_below
    (λ k. leb (length (list_at d k)) MAX_ENTRIES
    && all_below (λ j. ltb (slice_index (list_at d k) j) (length d.quota))
    (length (list_at d k)))
    (length d.lists)

-- a dictatorship that passes these tests is valid
pub dictatorship_valid_from : (d : Dictatorship) → dictatorship_fits d ≡ true
    → turn_lists_fit d ≡ true → IsValidDictatorship d
unfolding dictatorship_fits turn_lists_fit
dictatorship_valid_from d p l =
    let c0 = and_parts _ _ p in
    let c1 = and_parts _ _ c0.0 in
    let c2 = and_parts _ _ c0.1 in
    record {
      fills = eqb-true _ _ c1.0;
      programmes = leb-true _ _ c1.1;
      turns = leb-true _ _ c2.0;
      quotas = λ q lq. leb-true _ _ (and_parts _ _ (all_below_at _ _ q c2.1 lq)).0;
      filled = λ q lq. leb-true _ _ (and_parts _ _ (all_below_at _ _ q c2.1 lq)).1;
      list_lengths = λ k lk. leb-true _ _ (and_parts _ _ (all_below_at _ _ k l lk)).0;
      list_entries =
          λ k j lk lj. ltb-true _ _
          (all_below_at _ _ j (and_parts _ _ (all_below_at _ _ k l lk)).1 lj);
    }

-- the worked dictatorship is valid
pub two_turns_valid : IsValidDictatorship two_turns
unfolding computes dictatorship_fits turn_lists_fit
two_turns_valid = dictatorship_valid_from two_turns refl refl

-- a dictatorship of these parts is valid where they are those of a valid one
pub dictatorship_parts_valid : (d : Dictatorship) (quota fill : List ℕ) (lists : List (List ℕ))
    → IsValidDictatorship d → quota ≡ d.quota → fill ≡ d.fill → lists ≡ d.lists
    → IsValidDictatorship (dictatorship quota fill lists)
dictatorship_parts_valid d quota fill lists v q f l =
    let same : d ≡ dictatorship quota fill lists
    = λ i. dictatorship (sym q i) (sym f i) (sym l i) in
    subst IsValidDictatorship same v
