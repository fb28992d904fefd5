-- Numbers in rising order: a rising permutation of a list is the list with each number put into its
-- place.
use Rattle.std.proofs.Common.{◌≡◌, ℕ, zero, suc, ◌+◌, ◌<◌, ◌≤◌, nat_le, if◌then◌else◌, List, [], ◌∷◌, length, refl, sym, ap, ◌∙◌, arith}
use Rattle.std.specs.Prelude.{slice_index, IsPermutation}
use Rattle.std.proofs.lemmas.Bool.{cond_both, leb-true, leb-false}
use Rattle.market.proofs.Copies.{copies, one_if, copies-permutation, Rises, Rises-unique}

-- one number more, in its place
abbrev pub place_in : ℕ → List ℕ → List ℕ
place_in x [] = x ∷ []
place_in x (y ∷ ys) = if nat_le x y then x ∷ y ∷ ys else y ∷ place_in x ys

-- the numbers in order
abbrev pub sorted : List ℕ → List ℕ
sorted [] = []
sorted (x ∷ xs) = place_in x (sorted xs)

-- no number is below a bound
abbrev AreAtLeast : ℕ → List ℕ → Type 0
AreAtLeast x [] = Unit {0}
AreAtLeast x (y ∷ ys) = (x ≤ y) × AreAtLeast x ys

AreAtLeast-lower : (x y : ℕ) (zs : List ℕ) → x ≤ y → AreAtLeast y zs → AreAtLeast x zs
AreAtLeast-lower x y [] le h = tt
AreAtLeast-lower x y (z ∷ zs) le h = let first : y ≤ z =
    h.0 in (omega arith, AreAtLeast-lower x y zs le h.1)

AreAtLeast-at : (x : ℕ) (ys : List ℕ) → AreAtLeast x ys → (k : ℕ) → k < length ys
    → x ≤ slice_index ys k
AreAtLeast-at x [] h k lt = absurd (omega arith)
AreAtLeast-at x (y ∷ ys) h zero lt = h.0
AreAtLeast-at x (y ∷ ys) h (suc k) lt = AreAtLeast-at x ys h.1 k (omega arith)

-- each number is at least those before it
abbrev Climbs : List ℕ → Type 0
Climbs [] = Unit {0}
Climbs (x ∷ xs) = AreAtLeast x xs × Climbs xs

Climbs-Rises : (xs : List ℕ) → Climbs xs → Rises xs
Climbs-Rises [] h i j le lt = absurd (omega arith)
Climbs-Rises (x ∷ xs) h zero zero le lt = omega arith
Climbs-Rises (x ∷ xs) h zero (suc j) le lt = AreAtLeast-at x xs h.0 j (omega arith)
Climbs-Rises (x ∷ xs) h (suc i) zero le lt = absurd (omega arith)
Climbs-Rises (x ∷ xs) h (suc i) (suc j) le lt = Climbs-Rises xs h.1 i j (omega arith) (omega arith)

AreAtLeast-place_in : (b x : ℕ) (ys : List ℕ) → b ≤ x → AreAtLeast b ys
    → AreAtLeast b (place_in x ys)
AreAtLeast-place_in b x [] le h = (le, tt)
AreAtLeast-place_in b x (y ∷ ys) le h =
    cond_both (nat_le x y) (x ∷ y ∷ ys) (y ∷ place_in x ys) (AreAtLeast b)
    (λ yes. (le, h))
    (λ no. (h.0, AreAtLeast-place_in b x ys le h.1))

place_in-Climbs : (x : ℕ) (ys : List ℕ) → Climbs ys → Climbs (place_in x ys)
place_in-Climbs x [] h = (tt, tt)
place_in-Climbs x (y ∷ ys) h =
    cond_both (nat_le x y) (x ∷ y ∷ ys) (y ∷ place_in x ys) Climbs
    (λ yes. let le : x ≤ y = leb-true x y yes in
    ((le, AreAtLeast-lower x y ys le h.0), h))
    (λ no. let above : y < x = leb-false x y no in
    (AreAtLeast-place_in y x ys (omega arith) h.0, place_in-Climbs x ys h.1))

sorted-Climbs : (xs : List ℕ) → Climbs (sorted xs)
sorted-Climbs [] = tt
sorted-Climbs (x ∷ xs) = place_in-Climbs x (sorted xs) (sorted-Climbs xs)

copies-place_in : (z x : ℕ) (ys : List ℕ) → copies z (place_in x ys) ≡ one_if z x + copies z ys
copies-place_in z x [] = refl
copies-place_in z x (y ∷ ys) =
    cond_both (nat_le x y) (x ∷ y ∷ ys) (y ∷ place_in x ys)
    (λ all. copies z all ≡ one_if z x + (one_if z y + copies z ys))
    (λ yes. refl)
    (λ no. let rest : copies z (place_in x ys) ≡ one_if z x + copies z ys =
    copies-place_in z x ys in omega arith)

copies-sorted : (z : ℕ) (xs : List ℕ) → copies z (sorted xs) ≡ copies z xs
copies-sorted z [] = refl
copies-sorted z (x ∷ xs) = copies-place_in z x (sorted xs)
    ∙ ap (λ n. one_if z x + n) (copies-sorted z xs)

-- a rising permutation is the list in order
pub sorted-unique : (xs ys : List ℕ) → IsPermutation xs ys → Rises ys → ys ≡ sorted xs
sorted-unique xs ys p up =
    Rises-unique ys (sorted xs) up (Climbs-Rises (sorted xs) (sorted-Climbs xs))
    (λ z. copies-permutation z xs ys p ∙ sym (copies-sorted z xs))
