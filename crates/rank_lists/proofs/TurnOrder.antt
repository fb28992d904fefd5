-- The standing of a turn is the one that has so many better ones: where no rank stands twice, these
-- are the standings sorted by rank, one after the other.
use Rattle.std.proofs.Common.{◌≡◌, ℕ, zero, suc, ◌+◌, ◌<◌, ◌≤◌, ◌==◌, Bool, true, false, cond, List, [], ◌∷◌, add-zero, find, length, map, nat_lt, refl, sym, ap, ◌∙◌, arith, Option, Some}
use Rattle.std.specs.Prelude.{slice_index, slice_index_or}
use Rattle.std.specs.List.{filter_map, range_with_len}
use Rattle.std.proofs.lemmas.Bool.Decides.{nat_tests}
use Rattle.std.proofs.lemmas.List.{get_or-map, get_or_default, length-map}
use Rattle.std.proofs.lemmas.List.Sums.{sum_by-cons}
use Rattle.rank_lists.specs.Table.{Standing, better_count, by_rank, turn_in}
use Rattle.market.proofs.Copies.{copies, one_if}
use Rattle.rank_lists.proofs.Standings.{Each, Each-at, Each-weaker, copies-sorted, length-sorted, sorted, sorted-Each, sorted-Each-back}

-- 1 for a rank that is better, else 0
abbrev better : ℕ → ℕ → ℕ
better rank other = cond (nat_lt other rank) 1 0

better-less : (rank other : ℕ) → other < rank → better rank other ≡ 1
better-less rank other lt = grind (arith, nat_tests)

better-not : (rank other : ℕ) → rank ≤ other → better rank other ≡ 0
better-not rank other le = grind (arith, nat_tests)

-- none is better than a rank that is at most each
none-better : (rank : ℕ) (ranks : List ℕ)
    → ((k : ℕ) → k < length ranks → rank ≤ slice_index ranks k)
    → copies 1 (map (better rank) ranks) ≡ 0
none-better rank [] least = refl
none-better rank (other ∷ ranks) least =
    let rest = none-better rank ranks (λ k lt. least (suc k) (omega arith)) in
    rw (better-not rank other (least 0 (omega arith))) (omega (arith, rest))

-- in ranks that rise strictly, as many are better than one as stand before it
better-before : (ranks : List ℕ) (k : ℕ)
    → ((i j : ℕ) → i < j → j < length ranks → slice_index ranks i < slice_index ranks j)
    → k < length ranks → copies 1 (map (better (slice_index ranks k)) ranks) ≡ k
better-before [] k rise lt = absurd (omega arith)
better-before (rank ∷ ranks) zero rise lt =
    let rest : copies 1 (map (better rank) ranks) ≡ 0 =
    none-better rank ranks (λ k inside.
    let above : rank < slice_index ranks k = rise 0 (suc k) (omega arith) (omega arith) in
    omega arith) in
    rw (better-not rank rank (omega arith)) (omega (arith, rest))
better-before (rank ∷ ranks) (suc k) rise lt =
    let above : rank < slice_index ranks k = rise 0 (suc k) (omega arith) lt in
    let rest : copies 1 (map (better (slice_index ranks k)) ranks) ≡ k =
    better-before ranks k (λ i j less inside. rise (suc i) (suc j) (omega arith) (omega arith))
    (omega arith) in
    rw (better-less (slice_index ranks k) rank above) (omega arith)

-- the better ones of standings, counted over their ranks
better_count-copies : (s : Standing) (ss : List Standing)
    → better_count ss s ≡ copies 1 (map (λ t. better s.rank t.rank) ss)
better_count-copies s [] = refl
better_count-copies s (t ∷ ss) =
    sum_by-cons (λ other. cond (nat_lt other.rank s.rank) 1 0) t ss
    ∙ front (nat_lt t.rank s.rank) (better_count-copies s ss)
  where
    front : (b : Bool) → better_count ss s ≡ copies 1 (map (λ t. better s.rank t.rank) ss)
        → cond b 1 0 + better_count ss s
        ≡ one_if 1 (cond b 1 0) + copies 1 (map (λ t. better s.rank t.rank) ss)
    front true e = omega arith
    front false e = omega arith

map-ranks : (rank : ℕ) (ss : List Standing)
    → map (λ t. better rank t.rank) ss ≡ map (better rank) (map (λ t. t.rank) ss)
map-ranks rank [] = refl
map-ranks rank (s ∷ ss) = ap (λ rest. better rank s.rank ∷ rest) (map-ranks rank ss)

-- a standing that stands in a list
abbrev StandsIn : List Standing → Standing → Type 0
StandsIn ss s = (k : ℕ) × (k < length ss) × (slice_index_or ss k s ≡ s)

-- the only one that passes is found
find-only : (p : Standing → Bool) (ss : List Standing) (s : Standing)
    → Each (λ t. p t ≡ true → t ≡ s) ss → StandsIn ss s → p s ≡ true → find p ss ≡ Some s
find-only p [] s only there passes = let inside = there.1 in absurd (omega arith)
find-only p (t ∷ ss) s only (zero, lt, same) passes =
    rw (ap p same ∙ passes) (ap (λ x. Some x) same)
find-only p (t ∷ ss) s only (suc k, lt, same) passes = by (p t) refl
    (find-only p ss s only.1 (k, omega arith, same) passes)
  where
    by : (b : Bool) → p t ≡ b → find p ss ≡ Some s → find p (t ∷ ss) ≡ Some s
    by true e later = rw e (ap (λ x. Some x) (only.0 e))
    by false e later = rw e later

equal : (a b : ℕ) → (a == b) ≡ true → a ≡ b
equal a b h = grind (arith, nat_tests)

is-equal : (a b : ℕ) → a ≡ b → (a == b) ≡ true
is-equal a b h = grind (arith, nat_tests)

-- each element stands in its list
each-stands : (ss : List Standing) → Each (StandsIn ss) ss
each-stands [] = tt
each-stands (s ∷ ss) = (
  (0, omega arith, refl),
  Each-weaker (StandsIn ss) (StandsIn (s ∷ ss))
      (λ t there. let inside = there.1 in (suc there.0, omega arith, there.2)) ss (each-stands ss),
)

-- what is found for each place is the list
filter_map-places : (f : ℕ → Option Standing) (o : ℕ) (ss : List Standing) (d : Standing)
    → ((k : ℕ) → k < length ss → f (o + k) ≡ Some (slice_index_or ss k d))
    → filter_map f (range_with_len o (length ss)) ≡ ss
filter_map-places f o [] d h = refl
filter_map-places f o (s ∷ ss) d h =
    let first : f o ≡ Some s = ap f (sym (add-zero o)) ∙ h 0 (omega arith) in
    let rest = filter_map-places f (o + 1) ss d (λ k lt.
    (let n : (o + 1) + k ≡ o + suc k = omega arith in ap f n) ∙ h (suc k) (omega arith)) in
    rw first (ap (λ later. s ∷ later) rest)

module _ (ss : List Standing) (rise : (i j : ℕ) → i < j → j < length (map (λ s. s.rank) (sorted ss))
    → slice_index (map (λ s. s.rank) (sorted ss)) i < slice_index (map (λ s. s.rank) (sorted ss)) j)
  where
    -- as many are better than a standing as stand before it when sorted
    count-at : (k : ℕ) (s : Standing) → k < length (sorted ss) → slice_index_or (sorted ss) k s ≡ s
        → better_count ss s ≡ k
    count-at k s lt here =
        let ranks = map (λ t. t.rank) (sorted ss) in
        let size = length-map (sorted ss) (λ t. t.rank) in
        let rank : slice_index ranks k ≡ s.rank = get_or-map (λ t. t.rank) (sorted ss) k s 0 lt
        ∙ ap (λ t. t.rank) here in
        better_count-copies s ss ∙ sym (copies-sorted (λ t. better s.rank t.rank) 1 ss)
        ∙ ap (copies 1) (map-ranks s.rank (sorted ss))
        ∙ ap (λ r. copies 1 (map (better r) ranks)) (sym rank)
        ∙ better-before ranks k rise (omega arith)

    -- each standing has its place when sorted
    places : Each (StandsIn (sorted ss)) ss
    places = sorted-Each-back (StandsIn (sorted ss)) ss (each-stands (sorted ss))

    stands : Each (StandsIn ss) (sorted ss)
    stands = sorted-Each (StandsIn ss) ss (each-stands ss)

    -- the standing of a turn
    turn-at : (k : ℕ) (d : Standing) → k < length (sorted ss)
        → turn_in ss k ≡ Some (slice_index_or (sorted ss) k d)
    turn-at k d lt =
        let s = slice_index_or (sorted ss) k d in
        let here : slice_index_or (sorted ss) k s ≡ s = get_or_default (sorted ss) k s d lt in
        let only =
        λ (t : Standing) (there : StandsIn (sorted ss) t) (e : (better_count ss t == k) ≡ true).
        (let place : there.0 ≡ k = sym (count-at there.0 t there.1 there.2) ∙ equal _ _ e in
        sym there.2 ∙ ap (λ i. slice_index_or (sorted ss) i t) place
        ∙ get_or_default (sorted ss) k t d lt) in
        find-only (λ t. better_count ss t == k) ss s
        (Each-weaker (StandsIn (sorted ss)) (λ t. (better_count ss t == k) ≡ true → t ≡ s) only
        ss places)
        (Each-at (StandsIn ss) (sorted ss) stands k d lt) (is-equal _ _ (count-at k s lt here))

    -- the standings by rising rank
    pub by_rank-sorted : (d : Standing) → by_rank ss ≡ sorted ss
    by_rank-sorted d =
        ap (λ n. filter_map (turn_in ss) (range_with_len 0 n)) (sym (length-sorted ss))
        ∙ filter_map-places (turn_in ss) 0 (sorted ss) d (λ k lt.
        (let n : 0 + k ≡ k = omega arith in ap (turn_in ss) n) ∙ turn-at k d lt)
