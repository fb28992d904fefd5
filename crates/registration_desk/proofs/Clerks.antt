-- Lists of clerks: the last one taken away, or one put behind the others.
use Rattle.std.proofs.Common.{◌≡◌, ℕ, suc, ◌+◌, List, [], ◌∷◌, ◌++◌, length, Some, refl, sym, ap, subst, ⊎_elim, ◌∙◌, arith, length-append}
use Rattle.std.specs.Prelude.{slice_get}
use Rattle.std.specs.List.{sum_by}
use Rattle.std.proofs.lemmas.List.Sums.{sum_by-append, sum_by-cons}
use Rattle.registration_desk.specs.Desks.{IsClerkOf, AreClerksOf, IsNew, AllNew}
use Rattle.registration_desk.specs.declared.desk.Desk.{Desk}
use Rattle.registration_desk.specs.declared.desk.Clerk.{Clerk}
use Rattle.registration_desk.proofs.Pushes.{at_last, at_longer, at_snoc}

-- the last of the clerks of a desk, and the others
pub clerks_last : (desk : Desk) (l xs : List Clerk) (m : Clerk) → l ≡ xs ++ m ∷ []
    → AreClerksOf desk l → IsClerkOf desk m × AreClerksOf desk xs
clerks_last desk l xs m is all = (
  all (length xs) m (ap (λ z. slice_get z (length xs)) is ∙ at_last xs m),
  λ k x e. all k x (ap (λ z. slice_get z k) is ∙ at_longer xs (m ∷ []) k x e),
)

-- a sum over the clerks, without the last one
pub sum_last : (f : Clerk → ℕ) (l xs : List Clerk) (m : Clerk) → l ≡ xs ++ m ∷ []
    → sum_by f l ≡ f m + sum_by f xs
sum_last f l xs m is =
    let one = sum_by-cons f m [] in
    let both = sum_by-append f xs (m ∷ []) in
    let all = ap (λ z. sum_by f z) is in
    omega arith

-- one more clerk at the opening
pub new_snoc : (desk : Desk) (l xs : List Clerk) (m : Clerk) → l ≡ xs ++ m ∷ []
    → AllNew desk xs → IsNew desk (length xs) m → AllNew desk l
new_snoc desk l xs m is all mine k x e =
    ⊎_elim
    (λ (old : slice_get xs k ≡ Some x). all k x old)
    (λ (last : (k ≡ length xs) × (m ≡ x)).
    subst (λ (z : ℕ × Clerk). IsNew desk z.0 z.1) (λ i. (sym last.0 i, last.1 i)) mine)
    (at_snoc xs m x k (ap (λ z. slice_get z k) (sym is) ∙ e))

-- and they are one more
pub count_snoc : (l xs : List Clerk) (m : Clerk) → l ≡ xs ++ m ∷ [] → length l ≡ length xs + 1
count_snoc l xs m is = let e = ap (λ z. length z) is in let n = length-append xs (m ∷ []) in
    omega arith

-- a sum of equal numbers
pub sum_ones : (f : Clerk → ℕ) (l : List Clerk)
    → ((k : ℕ) (clerk : Clerk) → slice_get l k ≡ Some clerk → f clerk ≡ 1) → sum_by f l ≡ length l
sum_ones f [] each = refl
sum_ones f (x ∷ xs) each =
    let a : f x ≡ 1 = each 0 x refl in
    omega (arith, sum_by-cons f x xs, sum_ones f xs (λ k m e. each (suc k) m e))
