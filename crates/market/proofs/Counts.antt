-- Counts and sums over the numbers below n.
use Rattle.std.proofs.Common.{◌≡◌, ℕ, zero, suc, ◌+◌, ◌<◌, ◌≤◌, Bool, true, cond, refl, sym, ap, ◌∙◌, subst, arith, ⊎_elim}
use Rattle.std.proofs.lemmas.Bool.{cases_lt, cases_Bool}
use Rattle.market.specs.Counting.{count_below, sum_below}
use Rattle.market.proofs.Turns.{one_more, no_more}

-- one number more counts no less
pub count_mono : (f : ℕ → Bool) (n : ℕ) → count_below f n ≤ count_below f (suc n)
count_mono f n = omega arith

-- the count with one number more
pub suc_count : (f : ℕ → Bool) (k : ℕ) → count_below f (k + 1) ≡ count_below f k + cond (f k) 1 0
suc_count f k = let e : k + 1 ≡ suc k = omega arith in ap (count_below f) e

-- a number that passes is counted
pub count_one : (f : ℕ → Bool) (n i : ℕ) → i < n → f i ≡ true → 1 ≤ count_below f n
count_one f zero i l t = absurd (omega arith)
count_one f (suc n) i l t =
    ⊎_elim
    (λ less. let ih = count_one f n i less t in omega arith)
    (λ more. let e : i ≡ n = omega arith in let one = one_more (f n) (ap f (sym e)
    ∙ t) in omega arith)
    (cases_lt i n)

-- two numbers that pass are counted
pub count_two : (f : ℕ → Bool) (n i j : ℕ) → i < j → j < n → f i ≡ true → f j ≡ true
    → 2 ≤ count_below f n
count_two f zero i j l k t u = absurd (omega arith)
count_two f (suc n) i j l k t u =
    ⊎_elim
    (λ less. let ih = count_two f n i j l less t u in omega arith)
    (λ more.
    let e : j ≡ n = omega arith in
    let one = one_more (f n) (ap f (sym e) ∙ u) in
    let ih = count_one f n i (omega arith) t in
    omega arith)
    (cases_lt j n)

-- a number below n that passes
pub record Passes (f : ℕ → Bool) (n : ℕ) : Type 0 where
  pub number : ℕ
  pub below : number < n
  pub passes : f number ≡ true

-- where something is counted, a number passes
pub count_some : (f : ℕ → Bool) (n : ℕ) → 0 < count_below f n → Passes f n
count_some f zero l = absurd (omega arith)
count_some f (suc n) l =
    ⊎_elim
    (λ t. record { number = n; below = omega arith; passes = t })
    (λ u. let e = no_more (f n) u in
    let r = count_some f n (omega arith) in
    record { number = r.number; below = omega (arith, r.below); passes = r.passes })
    (cases_Bool (f n))

-- two of them
pub record PassesTwice (f : ℕ → Bool) (n : ℕ) : Type 0 where
  pub first : ℕ
  pub second : ℕ
  pub apart : first < second
  pub below : second < n
  pub first_passes : f first ≡ true
  pub second_passes : f second ≡ true

-- where two are counted, two numbers pass
pub count_some_two : (f : ℕ → Bool) (n : ℕ) → 1 < count_below f n → PassesTwice f n
count_some_two f zero l = absurd (omega arith)
count_some_two f (suc n) l =
    ⊎_elim
    (λ t. let e = one_more (f n) t in
    let r = count_some f n (omega arith) in
    record {
      first = r.number;
      second = n;
      apart = r.below;
      below = omega arith;
      first_passes = r.passes;
      second_passes = t;
    })
    (λ u. let e = no_more (f n) u in
    let r = count_some_two f n (omega arith) in
    record {
      first = r.first;
      second = r.second;
      apart = r.apart;
      below = omega (arith, r.below);
      first_passes = r.first_passes;
      second_passes = r.second_passes;
    })
    (cases_Bool (f n))

-- a sum of no more is no more
pub sum_le : (f g : ℕ → ℕ) (n : ℕ) → ((i : ℕ) → i < n → f i ≤ g i) → sum_below f n ≤ sum_below g n
sum_le f g zero h = omega arith
sum_le f g (suc n) h = let ih = sum_le f g n (λ i l. h i (omega arith)) in let here =
    h n (omega arith) in omega arith

-- a sum of no more, and of less in one place, is less
pub sum_lt : (f g : ℕ → ℕ) (n i : ℕ) → ((i : ℕ) → i < n → f i ≤ g i) → i < n → f i < g i
    → sum_below f n < sum_below g n
sum_lt f g zero i h l less = absurd (omega arith)
sum_lt f g (suc n) i h l less =
    ⊎_elim
    (λ b. let ih = sum_lt f g n i (λ j k. h j (omega arith)) b less in let here = h n
    (omega arith) in omega arith)
    (λ m. let e : i ≡ n = omega arith in
    let ih = sum_le f g n (λ j k. h j (omega arith)) in
    let here = subst (λ (j : ℕ). f j < g j) e less in
    omega arith)
    (cases_lt i n)

-- a sum of the same is the same
pub sum_same : (f g : ℕ → ℕ) (n : ℕ) → ((i : ℕ) → i < n → f i ≡ g i) → sum_below f n ≡ sum_below g n
sum_same f g zero h = refl
sum_same f g (suc n) h = let ih = sum_same f g n (λ i l. h i (omega arith)) in let here =
    h n (omega arith) in omega arith
