-- The keys that candidates draw: at most one for each, in their order.
use Rattle.std.proofs.Common.{◌≡◌, ℕ, zero, suc, ◌+◌, ◌%◌, ◌<◌, ◌≤◌, ◌==◌, List, ◌∷◌, length, map, refl, arith, ⊎_elim, Some, None}
use Rattle.std.specs.List.{cons_option, filter_map, range_with_len}
use Rattle.std.proofs.lemmas.Bool.{cond_both}
use Rattle.case_maker.specs.Draws.{Key, word_key}
use Rattle.market.proofs.Copies.{copies, one_if, one_if-cases, one_if-other, one_if-same}

-- the keys that words give the candidates from o on
abbrev pub keys_from : (ℕ → ℕ) → ℕ → ℕ → List Key
keys_from words o n = filter_map (λ i. word_key (words i) i) (range_with_len o n)

-- what holds with and without a key in front holds of it
front : (P : List Key → Type 0) (word i : ℕ) (rest : List Key) → P rest → P ((word, i) ∷ rest)
    → P (cons_option (word_key word i) rest)
front P word i rest without with_it =
    cond_both (word % 8 == 0) None (Some (word, i)) (λ key. P (cons_option key rest))
    (λ none. without)
    (λ some. with_it)

module _ (words : ℕ → ℕ) where
  -- n candidates draw at most n keys
  pub length-keys : (n o : ℕ) → length (keys_from words o n) ≤ n
  length-keys zero o = omega arith
  length-keys (suc n) o =
      let rest : length (keys_from words (o + 1) n) ≤ n = length-keys n (o + 1) in
      front (λ keys. length keys ≤ suc n) (words o) o (keys_from words (o + 1) n)
      (omega arith) (omega arith)

  -- no candidate before the first
  copies-below : (x n o : ℕ) → x < o → copies x (map (λ k. k.1) (keys_from words o n)) ≡ 0
  copies-below x zero o lt = refl
  copies-below x (suc n) o lt =
      let rest : copies x (map (λ k. k.1) (keys_from words (o + 1) n)) ≡ 0 =
      copies-below x n (o + 1) (omega arith) in
      let here : one_if x o ≡ 0 = one_if-other x o (λ e. omega arith) in
      front (λ keys. copies x (map (λ k. k.1) keys) ≡ 0) (words o) o (keys_from words (o + 1) n)
      rest (omega arith)

  -- and none behind the last
  pub copies-above : (x n o : ℕ) → o + n ≤ x
      → copies x (map (λ k. k.1) (keys_from words o n)) ≡ 0
  copies-above x zero o le = refl
  copies-above x (suc n) o le =
      let rest : copies x (map (λ k. k.1) (keys_from words (o + 1) n)) ≡ 0 =
      copies-above x n (o + 1) (omega arith) in
      let here : one_if x o ≡ 0 = one_if-other x o (λ e. omega arith) in
      front (λ keys. copies x (map (λ k. k.1) keys) ≡ 0) (words o) o (keys_from words (o + 1) n)
      rest (omega arith)

  -- no candidate twice
  pub copies-once : (x n o : ℕ) → copies x (map (λ k. k.1) (keys_from words o n)) ≤ 1
  copies-once x zero o = omega arith
  copies-once x (suc n) o =
      let rest : copies x (map (λ k. k.1) (keys_from words (o + 1) n)) ≤ 1 =
      copies-once x n (o + 1) in
      front (λ keys. copies x (map (λ k. k.1) keys) ≤ 1) (words o) o (keys_from words (o + 1) n)
      rest
      (⊎_elim
      (λ (other : one_if x o ≡ 0). omega arith)
      (λ (same : x ≡ o).
      let none : copies x (map (λ k. k.1) (keys_from words (o + 1) n)) ≡ 0 =
      copies-below x n (o + 1) (omega arith) in
      let one : one_if x o ≡ 1 = one_if-same x o same in
      omega arith)
      (one_if-cases x o))
