-- Counts and sums.
use Rattle.std.specs.Prelude.{ℕ, zero, suc, ◌+◌, ◌≤◌, Bool, false, List, Option, Some, None, ◌==◌, count_by, if◌then◌else◌}

-- how many numbers below n pass the test
abbrev pub count_below : (ℕ → Bool) → ℕ → ℕ
count_below f zero = 0
count_below f (suc n) = count_below f n + (if f n then 1 else 0)

-- the sum of f over the numbers below n
abbrev pub sum_below : (ℕ → ℕ) → ℕ → ℕ
sum_below f zero = 0
sum_below f (suc n) = sum_below f n + f n

-- whether this is the programme p, and not none
abbrev pub is_programme : ℕ → Option ℕ → Bool
is_programme p None = false
is_programme p (Some q) = q == p

-- how many of these are the programme p
abbrev pub count_of : ℕ → List (Option ℕ) → ℕ
count_of p given = count_by (is_programme p) given

-- a counter has risen by at most so many
abbrev pub HasRisenWithin : ℕ → ℕ → ℕ → Type 0
HasRisenWithin old new most = (old ≤ new) × (new ≤ old + most)
