-- What the first row that names a candidate gives it, as the rows grow by one.
use Rattle.std.proofs.Common.{◌≡◌, ◌≢◌, ℕ, None, Some, Option, List, [], ◌∷◌, ◌++◌, find, true, false, ◌==◌, refl, sym, ap, ◌∙◌, arith}
use Rattle.std.specs.Option.{option_map, option_or}
use Rattle.std.proofs.lemmas.Bool.{ne_eqb}
use Rattle.std.proofs.lemmas.Bool.Decides.{nat_tests}
use Rattle.std.proofs.lemmas.List.Folds.{find-append}
use Rattle.record_files.specs.Rows.{Row}

module _ {B : Type 0} (named : Row → ℕ) (given : Row → B) (rows : List Row) (row : Row) where
  -- a row that names another candidate gives this one nothing
  pub found-other : (number : ℕ) → number ≢ named row
      → option_map given (find (λ other. number == named other) rows)
      ≡ option_map given (find (λ other. number == named other) (rows ++ row ∷ []))
  found-other number apart =
      let same = λ (other : Row). number == named other in
      let absent : same row ≡ false = ne_eqb number (named row) apart in
      let last : find same (row ∷ []) ≡ None = rw absent refl in
      ap (option_map given)
      (sym (find-append same rows (row ∷ []) ∙ ap (option_or (find same rows)) last
      ∙ or-none (find same rows)))
    where
      or-none : (found : Option Row) → option_or found None ≡ found
      or-none None = refl
      or-none (Some found) = refl

  -- one that names this candidate gives it something, where no earlier row does
  pub found-own : option_map given (find (λ other. named row == named other) rows) ≡ None
      → option_map given (find (λ other. named row == named other) (rows ++ row ∷ []))
      ≡ Some (given row)
  found-own free =
      let same = λ (other : Row). named row == named other in
      let last : find same (row ∷ []) ≡ Some row = rw (eqb-same (named row)) refl in
      ap (option_map given)
      (find-append same rows (row ∷ [])
      ∙ ap (λ found. option_or found (find same (row ∷ []))) (absent (find same rows) free) ∙ last)
    where
      absent : (found : Option Row) → option_map given found ≡ None → found ≡ None
      absent None e = refl
      absent (Some found) e = cc

      eqb-same : (n : ℕ) → (n == n) ≡ true
      eqb-same n = grind (arith, nat_tests)
