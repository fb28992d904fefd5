-- Standings by rising rank, and the same as sorted numbers, each a rank with its candidate behind
-- it.
use Rattle.std.proofs.Common.{◌≡◌, ℕ, zero, suc, ◌+◌, ◌/◌, ◌%◌, ◌<◌, ◌≤◌, ◌==◌, ◌&&◌, ◌||◌, List, [], ◌∷◌, Bool, true, false, if◌then◌else◌, nat_le, nat_lt, length, map, refl, sym, ap, ◌∙◌, arith}
use Rattle.std.specs.Prelude.{slice_index, slice_index_or, IsPermutation}
use Rattle.std.proofs.lemmas.Bool.{cond_both}
use Rattle.std.proofs.lemmas.Bool.Decides.{nat_tests}
use Rattle.rank_lists.specs.declared.keys.TheConstants.{INDEXES}
use Rattle.rank_lists.specs.Clean.{standing_key}
use Rattle.rank_lists.specs.Table.{Standing}
use Rattle.market.proofs.Copies.{copies, one_if, copies-permutation, Rises, Rises-unique}

-- a better rank, and of equal ranks the lesser index
abbrev is_before : Standing → Standing → Bool
is_before s t = nat_lt s.rank t.rank || ((s.rank == t.rank) && nat_le s.candidate t.candidate)

-- a standing put into its place
abbrev put_in : Standing → List Standing → List Standing
put_in s [] = s ∷ []
put_in s (t ∷ ts) = if is_before s t then s ∷ t ∷ ts else t ∷ put_in s ts

-- standings sorted by rank
abbrev pub sorted : List Standing → List Standing
sorted [] = []
sorted (s ∷ ss) = put_in s (sorted ss)

-- a fact of each standing
abbrev pub Each : (Standing → Type 0) → List Standing → Type 0
Each P [] = Unit {0}
Each P (s ∷ ss) = P s × Each P ss

-- what holds of each holds of the one at a place
pub Each-at : (P : Standing → Type 0) (ss : List Standing) → Each P ss → (k : ℕ) (d : Standing)
    → k < length ss → P (slice_index_or ss k d)
Each-at P [] h k d lt = absurd (omega arith)
Each-at P (s ∷ ss) h zero d lt = h.0
Each-at P (s ∷ ss) h (suc k) d lt = Each-at P ss h.1 k d (omega arith)

-- and what follows from it holds of each
pub Each-weaker : (P Q : Standing → Type 0) → ((s : Standing) → P s → Q s) → (ss : List Standing)
    → Each P ss → Each Q ss
Each-weaker P Q w [] h = tt
Each-weaker P Q w (s ∷ ss) h = (w s h.0, Each-weaker P Q w ss h.1)

-- the candidates of standings are small enough to stand behind a rank
abbrev pub AreSmall : List Standing → Type 0
AreSmall = Each (λ s. s.candidate < INDEXES)

before-key : (s t : Standing) → s.candidate < INDEXES → t.candidate < INDEXES
    → is_before s t ≡ true → standing_key s ≤ standing_key t
before-key s t a b e = grind (arith, nat_tests)

behind-key : (s t : Standing) → s.candidate < INDEXES → t.candidate < INDEXES
    → is_before s t ≡ false → standing_key t ≤ standing_key s
behind-key s t a b e = grind (arith, nat_tests)

-- no number is below a bound
abbrev AtLeast : ℕ → List ℕ → Type 0
AtLeast x [] = Unit {0}
AtLeast x (y ∷ ys) = (x ≤ y) × AtLeast x ys

AtLeast-lower : (x y : ℕ) (zs : List ℕ) → x ≤ y → AtLeast y zs → AtLeast x zs
AtLeast-lower x y [] le h = tt
AtLeast-lower x y (z ∷ zs) le h = let first : y ≤ z =
    h.0 in (omega arith, AtLeast-lower x y zs le h.1)

AtLeast-at : (x : ℕ) (ys : List ℕ) → AtLeast x ys → (k : ℕ) → k < length ys → x ≤ slice_index ys k
AtLeast-at x [] h k lt = absurd (omega arith)
AtLeast-at x (y ∷ ys) h zero lt = h.0
AtLeast-at x (y ∷ ys) h (suc k) lt = AtLeast-at x ys h.1 k (omega arith)

-- each number is at least those before it
abbrev Climbs : List ℕ → Type 0
Climbs [] = Unit {0}
Climbs (x ∷ xs) = AtLeast x xs × Climbs xs

Climbs-Rises : (xs : List ℕ) → Climbs xs → Rises xs
Climbs-Rises [] h i j le lt = absurd (omega arith)
Climbs-Rises (x ∷ xs) h zero zero le lt = omega arith
Climbs-Rises (x ∷ xs) h zero (suc j) le lt = AtLeast-at x xs h.0 j (omega arith)
Climbs-Rises (x ∷ xs) h (suc i) zero le lt = absurd (omega arith)
Climbs-Rises (x ∷ xs) h (suc i) (suc j) le lt = Climbs-Rises xs h.1 i j (omega arith) (omega arith)

AtLeast-put_in : (x : ℕ) (s : Standing) (ts : List Standing) → x ≤ standing_key s
    → AtLeast x (map standing_key ts) → AtLeast x (map standing_key (put_in s ts))
AtLeast-put_in x s [] le h = (le, tt)
AtLeast-put_in x s (t ∷ ts) le h =
    cond_both (is_before s t) (s ∷ t ∷ ts) (t ∷ put_in s ts)
    (λ all. AtLeast x (map standing_key all))
    (λ yes. (le, h))
    (λ no. (h.0, AtLeast-put_in x s ts le h.1))

put_in-Climbs : (s : Standing) (ts : List Standing) → s.candidate < INDEXES → AreSmall ts
    → Climbs (map standing_key ts) → Climbs (map standing_key (put_in s ts))
put_in-Climbs s [] a b h = (tt, tt)
put_in-Climbs s (t ∷ ts) a b h =
    cond_both (is_before s t) (s ∷ t ∷ ts) (t ∷ put_in s ts) (λ all. Climbs (map standing_key all))
    (λ yes. let le : standing_key s ≤ standing_key t = before-key s t a b.0 yes in
    ((le, AtLeast-lower (standing_key s) (standing_key t) (map standing_key ts) le h.0), h))
    (λ no. let le : standing_key t ≤ standing_key s = behind-key s t a b.0 no in
    (AtLeast-put_in (standing_key t) s ts le h.0, put_in-Climbs s ts a b.1 h.1))

module _ (P : Standing → Type 0) where
  put_in-Each : (s : Standing) (ts : List Standing) → P s → Each P ts → Each P (put_in s ts)
  put_in-Each s [] a b = (a, tt)
  put_in-Each s (t ∷ ts) a b = cond_both (is_before s t) (s ∷ t ∷ ts) (t ∷ put_in s ts) (Each P)
      (λ yes. (a, b))
      (λ no. (b.0, put_in-Each s ts a b.1))

  -- sorting keeps what holds of each
  pub sorted-Each : (ss : List Standing) → Each P ss → Each P (sorted ss)
  sorted-Each [] h = tt
  sorted-Each (s ∷ ss) h = put_in-Each s (sorted ss) h.0 (sorted-Each ss h.1)

  put_in-back : (s : Standing) (ts : List Standing) → Each P (put_in s ts) → P s × Each P ts
  put_in-back s [] h = h
  put_in-back s (t ∷ ts) h = cond_both (is_before s t) (s ∷ t ∷ ts) (t ∷ put_in s ts)
      (λ all. Each P all → P s × (P t × Each P ts))
      (λ yes all. all)
      (λ no all. let later = put_in-back s ts all.1 in (later.0, (all.0, later.1))) h

  -- and what holds of each sorted one holds of each
  pub sorted-Each-back : (ss : List Standing) → Each P (sorted ss) → Each P ss
  sorted-Each-back [] h = tt
  sorted-Each-back (s ∷ ss) h = let both = put_in-back s (sorted ss) h in
      (both.0, sorted-Each-back ss both.1)

length-put_in : (s : Standing) (ts : List Standing) → length (put_in s ts) ≡ suc (length ts)
length-put_in s [] = refl
length-put_in s (t ∷ ts) = cond_both (is_before s t) (s ∷ t ∷ ts) (t ∷ put_in s ts)
    (λ all. length all ≡ suc (suc (length ts))) (λ yes. refl)
    (λ no. ap (λ n. suc n) (length-put_in s ts))

-- and it keeps how many they are
pub length-sorted : (ss : List Standing) → length (sorted ss) ≡ length ss
length-sorted [] = refl
length-sorted (s ∷ ss) = length-put_in s (sorted ss) ∙ ap (λ n. suc n) (length-sorted ss)

-- sorting keeps small candidates small
pub sorted-AreSmall : (ss : List Standing) → AreSmall ss → AreSmall (sorted ss)
sorted-AreSmall = sorted-Each (λ s. s.candidate < INDEXES)

-- sorted, the keys climb
sorted-Climbs : (ss : List Standing) → AreSmall ss → Climbs (map standing_key (sorted ss))
sorted-Climbs [] h = tt
sorted-Climbs (s ∷ ss) h =
    put_in-Climbs s (sorted ss) h.0 (sorted-AreSmall ss h.1) (sorted-Climbs ss h.1)

module _ (f : Standing → ℕ) where
  copies-put_in : (x : ℕ) (s : Standing) (ts : List Standing)
      → copies x (map f (put_in s ts)) ≡ one_if x (f s) + copies x (map f ts)
  copies-put_in x s [] = refl
  copies-put_in x s (t ∷ ts) = cond_both (is_before s t) (s ∷ t ∷ ts) (t ∷ put_in s ts)
      (λ all. copies x (map f all) ≡ one_if x (f s) + (one_if x (f t) + copies x (map f ts)))
      (λ yes. refl)
      (λ no. let rest : copies x (map f (put_in s ts)) ≡ one_if x (f s) + copies x (map f ts) =
      copies-put_in x s ts in omega arith)

  -- sorting keeps how often each number stands
  pub copies-sorted : (x : ℕ) (ss : List Standing)
      → copies x (map f (sorted ss)) ≡ copies x (map f ss)
  copies-sorted x [] = refl
  copies-sorted x (s ∷ ss) = copies-put_in x s (sorted ss)
      ∙ ap (λ n. one_if x (f s) + n) (copies-sorted x ss)

-- the keys of the standings by rising rank rise
pub sorted-Rises : (ss : List Standing) → AreSmall ss → Rises (map standing_key (sorted ss))
sorted-Rises ss small = Climbs-Rises (map standing_key (sorted ss)) (sorted-Climbs ss small)

-- the sorted keys are the keys of the standings by rising rank
pub sorted-keys : (ss : List Standing) (keys : List ℕ) → AreSmall ss
    → IsPermutation (map standing_key ss) keys → Rises keys → keys ≡ map standing_key (sorted ss)
sorted-keys ss keys small p up =
    Rises-unique keys (map standing_key (sorted ss)) up (Climbs-Rises _ (sorted-Climbs ss small))
    (λ x. copies-permutation x (map standing_key ss) keys p ∙ sym (copies-sorted standing_key x ss))

-- the candidates of the sorted keys
pub keys-candidates : (ss : List Standing) → AreSmall ss
    → map (λ key. key % INDEXES) (map standing_key ss) ≡ map (λ s. s.candidate) ss
keys-candidates [] h = refl
keys-candidates (s ∷ ss) h =
    let small : s.candidate < INDEXES = h.0 in
    let head : standing_key s % INDEXES ≡ s.candidate = omega arith in
    let rest = keys-candidates ss h.1 in
    cc

-- the ranks of the sorted keys
pub keys-ranks : (ss : List Standing) → AreSmall ss
    → map (λ key. key / INDEXES) (map standing_key ss) ≡ map (λ s. s.rank) ss
keys-ranks [] h = refl
keys-ranks (s ∷ ss) h =
    let small : s.candidate < INDEXES = h.0 in
    let head : standing_key s / INDEXES ≡ s.rank = omega arith in
    let rest = keys-ranks ss h.1 in
    cc
