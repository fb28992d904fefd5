-- Lists in which no number stands twice.
use Rattle.std.proofs.Common.{◌≡◌, ◌≢◌, ℕ, suc, ◌+◌, ◌%◌, ◌<◌, ◌≤◌, List, [], ◌∷◌, length, ap, ◌∙◌, arith, ⊎_elim}
use Rattle.std.specs.Prelude.{slice_index}
use Rattle.market.proofs.Copies.{copies, copies-none, one_if, one_if-cases, one_if-same, Rises, Rises-tail}

-- in a list whose numbers tell their places no number stands twice
pub copies-placed : (m x o : ℕ) (ys : List ℕ)
    → ((k : ℕ) → k < length ys → slice_index ys k % m ≡ o + k) → copies x ys ≤ 1
copies-placed m x o [] h = omega arith
copies-placed m x o (y ∷ ys) h =
    let next : (k : ℕ) → k < length ys → slice_index ys k % m ≡ suc o + k =
    λ k lt. h (suc k) (omega arith) ∙ (let e : o + suc k ≡ suc o + k = omega arith in e) in
    let rest : copies x ys ≤ 1 = copies-placed m x (suc o) ys next in
    ⊎_elim
    (λ (other : one_if x y ≡ 0). omega arith)
    (λ (same : x ≡ y).
    let none : copies x ys ≡ 0 = copies-none x ys (λ k lt e.
    let place : slice_index ys k % m ≡ suc o + k = next k lt in
    let first : y % m ≡ o + 0 = h 0 (omega arith) in
    let equal : slice_index ys k % m ≡ y % m = ap (λ n. n % m) (e ∙ same) in
    omega arith) in
    let here : one_if x y ≡ 1 = one_if-same x y same in
    omega arith)
    (one_if-cases x y)

-- in a rising list whose neighbours differ no number stands twice
pub copies-differ : (x : ℕ) (xs : List ℕ) → Rises xs
    → ((k : ℕ) → k + 1 < length xs → slice_index xs k ≢ slice_index xs (k + 1)) → copies x xs ≤ 1
copies-differ x [] r h = omega arith
copies-differ x (y ∷ ys) r h =
    let rest : copies x ys ≤ 1 =
    copies-differ x ys (Rises-tail y ys r) (λ k lt. differ-tail y ys h k lt) in
    ⊎_elim
    (λ (other : one_if x y ≡ 0). omega arith)
    (λ (same : x ≡ y).
    let none : copies x ys ≡ 0 = copies-none x ys (λ k lt e.
    let low : y ≤ slice_index ys 0 = r 0 1 (omega arith) (omega arith) in
    let high : slice_index ys 0 ≤ slice_index ys k = r 1 (suc k) (omega arith) (omega arith) in
    let first : y ≢ slice_index ys 0 = λ equal. h 0 (omega arith) equal in
    first (omega arith)) in
    let here : one_if x y ≡ 1 = one_if-same x y same in
    omega arith)
    (one_if-cases x y)
  where
    differ-tail : (y : ℕ) (ys : List ℕ)
        → ((k : ℕ) → k + 1 < suc (length ys)
        → slice_index (y ∷ ys) k ≢ slice_index (y ∷ ys) (k + 1))
        → (k : ℕ) → k + 1 < length ys → slice_index ys k ≢ slice_index ys (k + 1)
    differ-tail y ys h k lt e =
        h (suc k) (omega arith) (e
        ∙ (let n : suc (k + 1) ≡ suc k + 1 = omega arith in ap (slice_index (y ∷ ys)) n))
