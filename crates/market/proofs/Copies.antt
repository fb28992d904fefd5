-- How often a number stands in a list. Lists in rising order that have each number equally often
-- are equal.
use Rattle.std.proofs.Common.{◌≡◌, ◌≢◌, ℕ, zero, suc, ◌+◌, ◌<◌, ◌≤◌, ◌==◌, List, [], ◌∷◌, length, refl, sym, ap, ◌∙◌, arith, if◌then◌else◌, ⊎_elim, ◌⊎◌}
use Rattle.std.proofs.lemmas.Bool.{cases_lt}
use Rattle.std.proofs.lemmas.Bool.Decides.{nat_tests}
use Rattle.std.proofs.lemmas.List.Sums.{sum_by-cons}
use Rattle.std.proofs.lemmas.List.Sorted.{sum_by-IsPermutation}
use Rattle.std.specs.Prelude.{sum_by, slice_index, IsPermutation}
use Rattle.market.specs.Problems.{HasNoRepeats}

-- 1 where two numbers are equal, else 0
abbrev pub one_if : ℕ → ℕ → ℕ
one_if x y = if x == y then 1 else 0

-- how often a number stands in a list
abbrev pub copies : ℕ → List ℕ → ℕ
copies x [] = 0
copies x (y ∷ ys) = one_if x y + copies x ys

-- it is 1 where they are equal
pub one_if-same : (x y : ℕ) → x ≡ y → one_if x y ≡ 1
one_if-same x y e = grind (arith, nat_tests)

-- it is 0 where they are not
pub one_if-other : (x y : ℕ) → x ≢ y → one_if x y ≡ 0
one_if-other x y e = grind (arith, nat_tests)

-- so it is 0 or they are equal
pub one_if-cases : (x y : ℕ) → (one_if x y ≡ 0) ⊎ (x ≡ y)
one_if-cases x y = grind (arith, nat_tests)

copies-sum : (x : ℕ) (ys : List ℕ) → sum_by (one_if x) ys ≡ copies x ys
copies-sum x [] = refl
copies-sum x (y ∷ ys) = sum_by-cons (one_if x) y ys ∙ ap (λ n. one_if x y + n) (copies-sum x ys)

-- a permutation has each number equally often
pub copies-permutation : (x : ℕ) (xs ys : List ℕ) → IsPermutation xs ys → copies x ys ≡ copies x xs
copies-permutation x xs ys p = sym (copies-sum x ys) ∙ sum_by-IsPermutation (one_if x) xs ys p
    ∙ copies-sum x xs

-- a number that stands nowhere
pub copies-none : (x : ℕ) (ys : List ℕ) → ((k : ℕ) → k < length ys → slice_index ys k ≢ x)
    → copies x ys ≡ 0
copies-none x [] h = refl
copies-none x (y ∷ ys) h =
    let here : one_if x y ≡ 0 = one_if-other x y (λ e. h 0 (omega arith) (sym e)) in
    let rest : copies x ys ≡ 0 = copies-none x ys (λ k lt. h (suc k) (omega arith)) in
    omega arith

-- a number that stands at a place
pub copies-at : (ys : List ℕ) (k : ℕ) → k < length ys → 1 ≤ copies (slice_index ys k) ys
copies-at [] k lt = absurd (omega arith)
copies-at (y ∷ ys) zero lt = let here : one_if y y ≡ 1 = one_if-same y y refl in omega arith
copies-at (y ∷ ys) (suc k) lt = let rest : 1 ≤ copies (slice_index ys k) ys =
    copies-at ys k (omega arith) in omega arith

-- a number that stands at two places
pub copies-twice : (ys : List ℕ) (i j : ℕ) → i < j → j < length ys
    → slice_index ys i ≡ slice_index ys j → 2 ≤ copies (slice_index ys j) ys
copies-twice [] i j below lt e = absurd (omega arith)
copies-twice (y ∷ ys) i zero below lt e = absurd (omega arith)
copies-twice (y ∷ ys) zero (suc j) below lt e =
    let here : one_if (slice_index ys j) y ≡ 1 = one_if-same (slice_index ys j) y (sym e) in
    let rest : 1 ≤ copies (slice_index ys j) ys = copies-at ys j (omega arith) in
    omega arith
copies-twice (y ∷ ys) (suc i) (suc j) below lt e =
    let rest : 2 ≤ copies (slice_index ys j) ys =
    copies-twice ys i j (omega arith) (omega arith) e in
    omega arith

-- a list in which each number stands at most once repeats none
pub no_repeats : (ys : List ℕ) → ((x : ℕ) → copies x ys ≤ 1) → HasNoRepeats ys
no_repeats ys once i j below lt e =
    let twice : 2 ≤ copies (slice_index ys j) ys = copies-twice ys i j below lt e in
    let one : copies (slice_index ys j) ys ≤ 1 = once (slice_index ys j) in
    absurd (omega arith)

-- rising from place to place
abbrev pub Rises : List ℕ → Type 0
Rises xs = (i j : ℕ) → i ≤ j → j < length xs → slice_index xs i ≤ slice_index xs j

-- behind its head a rising list rises
pub Rises-tail : (x : ℕ) (xs : List ℕ) → Rises (x ∷ xs) → Rises xs
Rises-tail x xs r i j le lt = r (suc i) (suc j) (omega arith) (omega arith)

-- what stands in a rising list is not below its head
Rises-head : (x y : ℕ) (ys : List ℕ) → Rises (y ∷ ys) → 1 ≤ copies x (y ∷ ys) → y ≤ x
Rises-head x y ys r one = ⊎_elim
    (λ (below : x < y). let none : copies x (y ∷ ys) ≡ 0 = copies-none x (y ∷ ys)
    (λ k lt e. let above : y ≤ slice_index (y ∷ ys) k = r 0 k (omega arith) lt in omega arith) in
    absurd (omega arith))
    (λ (le : y ≤ x). le)
    (cases_lt x y)

-- rising lists that have each number equally often are equal
pub Rises-unique : (xs ys : List ℕ) → Rises xs → Rises ys → ((x : ℕ) → copies x xs ≡ copies x ys)
    → xs ≡ ys
Rises-unique [] [] r s h = refl
Rises-unique [] (y ∷ ys) r s h =
    let one : 1 ≤ copies y (y ∷ ys) = copies-at (y ∷ ys) 0 (omega arith) in
    let none : 0 ≡ copies y (y ∷ ys) = h y in
    absurd (omega arith)
Rises-unique (x ∷ xs) [] r s h =
    let one : 1 ≤ copies x (x ∷ xs) = copies-at (x ∷ xs) 0 (omega arith) in
    let none : copies x (x ∷ xs) ≡ 0 = h x in
    absurd (omega arith)
Rises-unique (x ∷ xs) (y ∷ ys) r s h =
    let there : 1 ≤ copies x (x ∷ xs) = copies-at (x ∷ xs) 0 (omega arith) in
    let here : 1 ≤ copies y (y ∷ ys) = copies-at (y ∷ ys) 0 (omega arith) in
    let at_x : copies x (x ∷ xs) ≡ copies x (y ∷ ys) = h x in
    let at_y : copies y (x ∷ xs) ≡ copies y (y ∷ ys) = h y in
    let low : y ≤ x = Rises-head x y ys s (omega arith) in
    let high : x ≤ y = Rises-head y x xs r (omega arith) in
    let head : x ≡ y = omega arith in
    let tail : (z : ℕ) → copies z xs ≡ copies z ys = λ z.
    let both : one_if z x + copies z xs ≡ one_if z y + copies z ys = h z in
    let same : one_if z x ≡ one_if z y = ap (one_if z) head in
    omega arith in
    let rest : xs ≡ ys = Rises-unique xs ys (Rises-tail x xs r) (Rises-tail y ys s) tail in
    cc
