-- Lists that change at one place or grow at the end, and sums over them.
use Rattle.std.proofs.Common.{◌≡◌, ℕ, zero, suc, ◌+◌, ◌≤◌, ◌≢◌, ◌⊎◌, List, [], ◌∷◌, ◌++◌, Some, length, set, get_or, replicate, sym, refl, ap, inl, inr, ⊎_elim, subst, ◌∙◌, arith}
use Rattle.std.specs.Prelude.{slice_get}
use Rattle.std.specs.List.{sum_by}
use Rattle.std.proofs.lemmas.List.Sums.{sum_by-cons, sum_by-set, get_or-le-sum_by}
use Rattle.std.proofs.lemmas.Option.{slice_get_within, get_or_from_slice_get}

module _ {A : Type 0} where
  -- what stands at a place once another, or this one, was written
  pub at_set : (l : List A) (i j : ℕ) (a b : A) → slice_get (set l i a) j ≡ Some b
      → ((j ≡ i) × (a ≡ b)) ⊎ ((j ≢ i) × (slice_get l j ≡ Some b))
  at_set [] i j a b e = absurd (cc (e))
  at_set (x ∷ xs) zero zero a b e = inl (refl, cc (e))
  at_set (x ∷ xs) zero (suc j) a b e = inr ((λ h. omega arith), e)
  at_set (x ∷ xs) (suc i) zero a b e = inr ((λ h. omega arith), e)
  at_set (x ∷ xs) (suc i) (suc j) a b e =
      ⊎_elim (λ t. inl (ap suc t.0, t.1)) (λ t. let n = t.0 in inr ((λ h. n (omega arith)), t.1))
      (at_set xs i j a b e)

  -- what holds of the element written and of each other holds of each
  pub each_set : (P : A → Type 0) (l : List A) (i : ℕ) (w : A) → P w
      → ((j : ℕ) (v : A) → j ≢ i → slice_get l j ≡ Some v → P v)
      → (j : ℕ) (v : A) → slice_get (set l i w) j ≡ Some v → P v
  each_set P l i w mine others j v e =
      ⊎_elim
      (λ (t : (j ≡ i) × (w ≡ v)). subst P t.1 mine)
      (λ (t : (j ≢ i) × (slice_get l j ≡ Some v)). others j v t.0 t.1)
      (at_set l i j w v e)

  -- what stands at a place among equal elements is that element
  pub at_replicate : (n i : ℕ) (x y : A) → slice_get (replicate n x) i ≡ Some y → x ≡ y
  at_replicate zero i x y e = absurd (cc (e))
  at_replicate (suc n) zero x y e = cc (e)
  at_replicate (suc n) (suc i) x y e = at_replicate n i x y e

  -- and so is what is read at any place with that element as the default
  pub get_replicate : (n i : ℕ) (x : A) → get_or (replicate n x) i x ≡ x
  get_replicate zero i x = refl
  get_replicate (suc n) zero x = refl
  get_replicate (suc n) (suc i) x = get_replicate n i x

  -- what stands in a list with one more element at its end
  pub at_snoc : (l : List A) (a b : A) (j : ℕ) → slice_get (l ++ a ∷ []) j ≡ Some b
      → (slice_get l j ≡ Some b) ⊎ ((j ≡ length l) × (a ≡ b))
  at_snoc [] a b zero e = inr (refl, cc (e))
  at_snoc [] a b (suc j) e = absurd (cc (e))
  at_snoc (x ∷ xs) a b zero e = inl e
  at_snoc (x ∷ xs) a b (suc j) e =
      ⊎_elim (λ p. inl p) (λ p. inr (ap suc p.0, p.1)) (at_snoc xs a b j e)

  -- what stands in a list stands there in a longer one
  pub at_longer : (l m : List A) (i : ℕ) (a : A) → slice_get l i ≡ Some a
      → slice_get (l ++ m) i ≡ Some a
  at_longer [] m i a e = absurd (cc (e))
  at_longer (x ∷ xs) m zero a e = e
  at_longer (x ∷ xs) m (suc i) a e = at_longer xs m i a e

  -- the element put at the end stands at the place that the list's length gives
  pub at_last : (l : List A) (a : A) → slice_get (l ++ a ∷ []) (length l) ≡ Some a
  at_last [] a = refl
  at_last (x ∷ xs) a = at_last xs a

  module _ (g : A → ℕ) where
    -- a sum after one element was written
    pub sum_set : (l : List A) (j : ℕ) (v w : A) → slice_get l j ≡ Some v
        → sum_by g (set l j w) + g v ≡ sum_by g l + g w
    sum_set l j v w e =
        let t = sum_by-set g l j w v (slice_get_within l j v e) in
        let at = ap g (get_or_from_slice_get l j v v e) in
        omega arith

    -- a term is at most the sum
    pub term_le : (l : List A) (j : ℕ) (v : A) → slice_get l j ≡ Some v → g v ≤ sum_by g l
    term_le l j v e =
        let t = get_or-le-sum_by g l j v (slice_get_within l j v e) in
        let at = ap g (get_or_from_slice_get l j v v e) in
        omega arith

    -- two terms of a sum
    pub terms_le : (l : List A) (j k : ℕ) (v u : A) → k ≢ j → slice_get l j ≡ Some v
        → slice_get l k ≡ Some u → g v + g u ≤ sum_by g l
    terms_le [] j k v u n e d = absurd (cc (e))
    terms_le (x ∷ xs) zero zero v u n e d = absurd (n refl)
    terms_le (x ∷ xs) zero (suc k) v u n e d =
        let is : x ≡ v = cc (e) in
        omega (arith, sum_by-cons g x xs, ap g is, term_le xs k u d)
    terms_le (x ∷ xs) (suc j) zero v u n e d =
        let is : x ≡ u = cc (d) in
        omega (arith, sum_by-cons g x xs, ap g is, term_le xs j v e)
    terms_le (x ∷ xs) (suc j) (suc k) v u n e d =
        omega (arith, sum_by-cons g x xs, terms_le xs j k v u (λ h. n (ap suc h)) e d)

    -- a sum of zeros
    pub sum_zero : (l : List A) → ((i : ℕ) (v : A) → slice_get l i ≡ Some v → g v ≡ 0)
        → sum_by g l ≡ 0
    sum_zero [] h = refl
    sum_zero (x ∷ xs) h =
        let a : g x ≡ 0 = h 0 x refl in
        omega (arith, sum_by-cons g x xs, sum_zero xs (λ i v e. h (suc i) v e))

    -- a sum over equal elements with the term 0 is 0
    pub sum_replicate : (n : ℕ) (x : A) → g x ≡ 0 → sum_by g (replicate n x) ≡ 0
    sum_replicate n x e =
        sum_zero (replicate n x) (λ i v at. ap g (sym (at_replicate n i x v at)) ∙ e)

-- what holds at each place of a list
module _ {A : Type 0} (P : ℕ → A → Type 0) where
  -- at each place of the list it holds
  abbrev Each : List A → Type 0
  Each l = (k : ℕ) (x : A) → slice_get l k ≡ Some x → P k x

  -- of the last one, and of the others
  pub each_last : (l xs : List A) (m : A) → l ≡ xs ++ m ∷ [] → Each l → P (length xs) m × Each xs
  each_last l xs m is all = (
    all (length xs) m (ap (λ z. slice_get z (length xs)) is ∙ at_last xs m),
    λ k x e. all k x (ap (λ z. slice_get z k) is ∙ at_longer xs (m ∷ []) k x e),
  )

  -- of one more
  pub each_snoc : (l xs : List A) (m : A) → l ≡ xs ++ m ∷ [] → Each xs → P (length xs) m → Each l
  each_snoc l xs m is all mine k x e =
      ⊎_elim
      (λ (t : slice_get xs k ≡ Some x). all k x t)
      (λ (t : (k ≡ length xs) × (m ≡ x)).
      subst (λ (z : ℕ × A). P z.0 z.1) (λ i. (sym t.0 i, t.1 i)) mine)
      (at_snoc xs m x k (ap (λ z. slice_get z k) (sym is) ∙ e))
