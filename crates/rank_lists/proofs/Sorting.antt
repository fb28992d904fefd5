-- A list whose numbers have their places behind them, and the same list sorted: equal numbers
-- become neighbours, and their places tell which of them repeats first.
use Rattle.std.proofs.Common.{◌≡◌, ℕ, ◌+◌, ◌/◌, ◌%◌, ◌<◌, ◌≤◌, List, length, map, suc, zero, add-one, zero-add, sym, ap, ◌∙◌, arith, ⊎_elim, Option, Some, None, MatchOption}
use Rattle.std.specs.Prelude.{slice_index, IsPermutation}
use Rattle.std.proofs.lemmas.Bool.{cases_lt}
use Rattle.std.proofs.lemmas.List.Sorted.{Contains-permutation, IsPermutation-sym, length_permutation}
use Rattle.std.proofs.lemmas.Grind.{get_or_default_zero}
use Rattle.std.proofs.lemmas.List.{get_or-map, length-map}
use Rattle.std.proofs.lemmas.List.Elements.{Contains-get_or}
use Rattle.rank_lists.specs.declared.keys.TheConstants.{PLACES}
use Rattle.rank_lists.specs.Placed.{HasPlaces}
use Rattle.rank_lists.specs.Repeats.{HasNoRepeat, IsFirstRepeat, IsPair, IsLeastOfPairs, IsLeastPair}
use Rattle.rank_lists.specs.declared.repeats.Repeat.{Repeat}
use Rattle.market.proofs.Copies.{copies, copies-permutation, copies-twice, Rises}
use Rattle.rank_lists.proofs.NoCopies.{copies-placed}

-- the numbers without their places
abbrev pub numbers_of : List ℕ → List ℕ
numbers_of placed = map (λ p. p / PLACES) placed

module _ (placed sorted : List ℕ) (is : HasPlaces placed) (p : IsPermutation placed sorted)
    (up : Rises sorted) where
  size : length sorted ≡ length placed
  size = length_permutation placed sorted p

  -- the sorted list rises strictly
  strict : (k : ℕ) → k + 1 < length sorted → slice_index sorted k < slice_index sorted (k + 1)
  strict k lt = ⊎_elim
      (λ (below : slice_index sorted k < slice_index sorted (k + 1)). below)
      (λ (above : slice_index sorted (k + 1) ≤ slice_index sorted k).
      let x = slice_index sorted (k + 1) in
      let le : slice_index sorted k ≤ x = up k (k + 1) (omega arith) lt in
      let equal : slice_index sorted k ≡ x = omega arith in
      let twice : 2 ≤ copies x sorted = copies-twice sorted k (k + 1) (omega arith) lt equal in
      let once : copies x placed ≤ 1 =
      copies-placed PLACES x 0 placed (λ j in_it. is.places j in_it ∙ sym (zero-add j)) in
      let same : copies x sorted ≡ copies x placed = copies-permutation x placed sorted p in
      absurd (omega arith))
      (cases_lt (slice_index sorted k) (slice_index sorted (k + 1)))

  -- what stands in the sorted list stood at its own place
  back : (k : ℕ) → k < length sorted → (slice_index sorted k % PLACES < length placed)
      × (slice_index placed (slice_index sorted k % PLACES) ≡ slice_index sorted k)
  back k lt =
      let x = slice_index sorted k in
      let there = Contains-permutation sorted placed x (IsPermutation-sym placed sorted p)
      (Contains-get_or sorted k 0 lt) in
      let found : slice_index placed there.0 ≡ x =
      sym (get_or_default_zero placed there.0 x there.1) ∙ there.2 in
      let place : x % PLACES ≡ there.0 = sym (ap (λ n. n % PLACES) found)
      ∙ is.places there.0 there.1 in
      rw place (there.1, found)

  -- what stood at a place stands in the sorted list
  forth : (k : ℕ) → k < length placed
      → (at : ℕ) × (at < length sorted) × (slice_index sorted at ≡ slice_index placed k)
  forth k lt =
      let x = slice_index placed k in
      let there = Contains-permutation placed sorted x p (Contains-get_or placed k 0 lt) in
      (there.0, there.1, sym (get_or_default_zero sorted there.0 x there.1) ∙ there.2)

  -- between two equal numbers all are equal, so the later one has an equal neighbour before it
  neighbour : (i j a b : ℕ) → i < j → j < length placed
      → slice_index placed i / PLACES ≡ slice_index placed j / PLACES
      → a < length sorted → b < length sorted → slice_index sorted a ≡ slice_index placed i
      → slice_index sorted b ≡ slice_index placed j
      → (k : ℕ) × (k + 1 < length sorted) × IsPair sorted k
      × (slice_index sorted (k + 1) % PLACES ≡ j)
  neighbour i j a zero below lt same in_a in_b at_a at_b =
      let places : slice_index placed i % PLACES ≡ i = is.places i (omega arith) in
      let places' : slice_index placed j % PLACES ≡ j = is.places j lt in
      let le : slice_index sorted 0 ≤ slice_index sorted a = up 0 a (omega arith) in_a in
      absurd (omega arith)
  neighbour i j a (suc b) below lt same in_a in_b at_a at_b =
      let places : slice_index placed i % PLACES ≡ i = is.places i (omega arith) in
      let places' : slice_index placed j % PLACES ≡ j = is.places j lt in
      ⊎_elim
      (λ (before : b < a).
      let le : slice_index sorted (suc b) ≤ slice_index sorted a =
      up (suc b) a (omega arith) in_a in
      absurd (omega arith))
      (λ (le : a ≤ b).
      let low : slice_index sorted a ≤ slice_index sorted b = up a b le (omega arith) in
      let high : slice_index sorted b ≤ slice_index sorted (suc b) =
      up b (suc b) (omega arith) in_b in
      let pair : slice_index sorted b / PLACES ≡ slice_index sorted (suc b) / PLACES =
      omega arith in
      (b, rw add-one in_b, rw add-one pair, rw add-one (ap (λ n. n % PLACES) at_b ∙ places')))
      (cases_lt b a)

  complete : (i j : ℕ) → i < j → j < length placed
      → slice_index placed i / PLACES ≡ slice_index placed j / PLACES
      → (k : ℕ) × (k + 1 < length sorted) × IsPair sorted k
      × (slice_index sorted (k + 1) % PLACES ≡ j)
  complete i j below lt same =
      let at_i = forth i (omega arith) in
      let at_j = forth j lt in
      neighbour i j at_i.0 at_j.0 below lt same at_i.1 at_j.1 at_i.2 at_j.2

  number-at : (k : ℕ) → k < length placed
      → slice_index (numbers_of placed) k ≡ slice_index placed k / PLACES
  number-at k lt = get_or-map (λ n. n / PLACES) placed k 0 0 lt

  -- two places of a list with the same number are seen in the sorted list
  seen : (i j : ℕ) → i < j → j < length placed
      → slice_index (numbers_of placed) i ≡ slice_index (numbers_of placed) j
      → (k : ℕ) × (k + 1 < length sorted) × IsPair sorted k
      × (slice_index sorted (k + 1) % PLACES ≡ j)
  seen i j below lt same =
      complete i j below lt (sym (number-at i (omega arith)) ∙ same ∙ number-at j lt)

  first-of-pairs : (r : Repeat) → IsLeastOfPairs sorted (length sorted) r
      → IsFirstRepeat (numbers_of placed) r.earlier r.later
  first-of-pairs r least =
      let k = least.at in
      let a = slice_index sorted k in
      let b = slice_index sorted (k + 1) in
      let rises : a < b = strict k least.inside in
      let back_a = back k (omega arith) in
      let back_b = back (k + 1) least.inside in
      let pair : a / PLACES ≡ b / PLACES = least.pair in
      let earlier : r.earlier ≡ a % PLACES = least.earlier in
      let later : r.later ≡ b % PLACES = least.later in
      let order : r.earlier < r.later = omega arith in
      let in_a : a % PLACES < length placed = back_a.0 in
      let in_b : b % PLACES < length placed = back_b.0 in
      let sizes = length-map placed (λ n. n / PLACES) in
      let at_a : slice_index (numbers_of placed) r.earlier ≡ a / PLACES =
      rw earlier (number-at (a % PLACES) in_a ∙ ap (λ n. n / PLACES) back_a.1) in
      let at_b : slice_index (numbers_of placed) r.later ≡ b / PLACES =
      rw later (number-at (b % PLACES) in_b ∙ ap (λ n. n / PLACES) back_b.1) in
      record {
        order = order;
        within = omega arith;
        same = at_a ∙ pair ∙ sym at_b;
        first = λ i j below lt same.
            let other = seen i j below (omega arith) same in
            let le : r.later ≤ slice_index sorted (other.0 + 1) % PLACES =
            least.least other.0 other.1 other.2 in
            let place : slice_index sorted (other.0 + 1) % PLACES ≡ j = other.3 in
            omega arith;
      }

  -- the least of the pairs is the first repeat
  pub first-repeat : (r : Option Repeat) → IsLeastPair sorted (length sorted) r
      → MatchOption r (HasNoRepeat (numbers_of placed) (length (numbers_of placed)))
      (λ r. IsFirstRepeat (numbers_of placed) r.earlier r.later)
  first-repeat None none = λ i j below lt same.
      let sizes = length-map placed (λ n. n / PLACES) in
      let other = seen i j below (omega arith) same in
      none other.0 other.1 other.2
  first-repeat (Some r) least = first-of-pairs r least
