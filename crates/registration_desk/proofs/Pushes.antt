-- Lists with one more element at their end.
use Rattle.std.proofs.Common.{◌≡◌, ◌⊎◌, ℕ, List, [], ◌∷◌, ◌++◌, length, Some, arith}
use Rattle.std.specs.Prelude.{slice_get}
use Rattle.std.proofs.lemmas.Grind.{elements}
use Rattle.std.proofs.lemmas.Option.{gets}

module _ {A : Type 0} where
  -- what stands in a list stands there in a longer one
  pub at_longer : (l m : List A) (i : ℕ) (a : A) → slice_get l i ≡ Some a
      → slice_get (l ++ m) i ≡ Some a
  at_longer l m i a e = grind (arith, elements, gets)

  -- the last element stands at the place that the length of the others gives
  pub at_last : (l : List A) (a : A) → slice_get (l ++ a ∷ []) (length l) ≡ Some a
  at_last l a = grind (arith, elements, gets)

  -- what stands in the longer list stood there, or is the last element
  pub at_snoc : (l : List A) (a b : A) (i : ℕ) → slice_get (l ++ a ∷ []) i ≡ Some b
      → (slice_get l i ≡ Some b) ⊎ ((i ≡ length l) × (a ≡ b))
  at_snoc l a b i e = grind (arith, elements, gets)
