-- Sums over the views of a table's seats, read by `get_elem?` as the table reads them.
use Rattle.std.proofs.Common.{◌≡◌, ◌≢◌, ℕ, zero, suc, ◌+◌, ◌<◌, ◌≤◌, List, [], ◌∷◌, length, get_or, set, sym, ap, ◌∙◌, arith}
use Rattle.std.specs.List.{sum_by}
use Rattle.std.proofs.lemmas.List.Sums.{sum_by-set, sum_by-le, get_or-le-sum_by}
use Rattle.std.proofs.lemmas.List.{get_or_default}
use mathlib.Core.Option.{some, some-injective, some-ne-none}
use lib.ListN.{get_elem?}
use Rattle.atomic_table.proofs.Lists.{at_index, set_else}
use Rattle.registration_desk.specs.Clerks.{ClerkKnows, spent_clerk}

-- a view that is there is within the list, and is what is read at its place
pub there : (l : List ClerkKnows) (i : ℕ) (x : ClerkKnows) → get_elem? l i ≡ some x
    → (i < length l) × (get_or l i x ≡ x)
there [] i x e = absurd (some-ne-none x (sym e))
there (y ∷ ys) zero x e = (omega arith, some-injective y x e)
there (y ∷ ys) (suc i) x e = let t = there ys i x e in (let n = t.0 in omega arith, t.1)

module _ (g : ClerkKnows → ℕ) where
  -- a sum after one view was written
  pub sum_set : (l : List ClerkKnows) (i : ℕ) (x y : ClerkKnows) → get_elem? l i ≡ some x
      → sum_by g (set l i y) + g x ≡ sum_by g l + g y
  sum_set l i x y e =
      let t = there l i x e in
      let s = sum_by-set g l i y x t.0 in
      let same = ap g t.1 in
      omega arith

  -- a view's number is at most the sum
  pub term_le : (l : List ClerkKnows) (i : ℕ) (x : ClerkKnows) → get_elem? l i ≡ some x
      → g x ≤ sum_by g l
  term_le l i x e =
      let t = there l i x e in
      let s = get_or-le-sum_by g l i x t.0 in
      let same = ap g t.1 in
      omega arith

  -- and so are two together, where a spent view has the number 0
  pub terms_le : (l : List ClerkKnows) (i j : ℕ) (x y : ClerkKnows) → g spent_clerk ≡ 0 → j ≢ i
      → get_elem? l i ≡ some x → get_elem? l j ≡ some y → g x + g y ≤ sum_by g l
  terms_le l i j x y none apart at_i at_j =
      let rest = sum_set l i x spent_clerk at_i in
      let other = term_le (set l i spent_clerk) j y (set_else l i j spent_clerk apart ∙ at_j) in
      omega arith

  -- a sum of zeros
  pub sum_zero : (l : List ClerkKnows)
      → ((i : ℕ) (x : ClerkKnows) → get_elem? l i ≡ some x → g x ≡ 0) → sum_by g l ≡ 0
  sum_zero l each =
      let le = sum_by-le g 0 l (λ i d inside.
      let none = each i (get_or l i d)
      (at_index l i (get_or l i d) inside (get_or_default l i d (get_or l i d) inside)) in
      omega arith) in
      omega arith
