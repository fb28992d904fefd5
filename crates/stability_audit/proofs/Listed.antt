-- Programmes that a search of a list finds, and what is acceptable.
use Rattle.std.proofs.Common.{◌≡◌, ℕ, ◌<◌, Bool, true, List, [], ◌∷◌, length, Option, sym, ap, ◌∙◌, arith, ⊎_elim}
use Rattle.std.specs.Prelude.{◌==◌, ◌||◌}
use Rattle.std.specs.List.{list_any}
use Rattle.std.proofs.lemmas.Bool.{cases_Bool, cases_eq, cases_lt, eq-eqb, ne_eqb, false≢true}
use Rattle.std.proofs.lemmas.List.Folds.{list_any_at}
use Rattle.market.specs.Problems.{Problem, admits, list_of, place_of}
use Rattle.market.proofs.Firsts.{place-here, place-next, place_get}
use Rattle.market.proofs.Valid.{candidate_lt}
use Rattle.stability_audit.specs.Entries.{BlocksWithSome}
use Rattle.stability_audit.specs.Verdicts.{HeldIsAcceptable}

-- what a search finds is listed
pub found-listed : (p : ℕ) (list : List ℕ) → list_any (λ q. q == p) list ≡ true
    → place_of p list < length list
found-listed p [] e = absurd (false≢true e)
found-listed p (q ∷ list) e =
    ⊎_elim
    (λ same.
    let here = ap (λ (x : ℕ). place_of p (x ∷ list)) same ∙ place-here p list in
    omega arith)
    (λ other.
    let rest = found-listed p list
    (sym (ap (λ (b : Bool). b || list_any (λ q. q == p) list) (ne_eqb q p other)) ∙ e) in
    let next = place-next q p list other in
    omega arith)
    (cases_eq q p)

-- and what is listed a search finds
pub listed-found : (p : ℕ) (list : List ℕ) → place_of p list < length list
    → list_any (λ q. q == p) list ≡ true
listed-found p list l =
    list_any_at (λ q. q == p) list (place_of p list) 0 l
    (eq-eqb _ p (place_get p list 0 l))

-- being acceptable can be tested, so what is not unacceptable is acceptable
pub not_unacceptable : (m : Problem) (held : List (Option ℕ)) (i : ℕ)
    → ((HeldIsAcceptable m held i → ⊥) → ⊥) → HeldIsAcceptable m held i
not_unacceptable m held i not_not p holds =
    let list = list_of m i in
    record {
      listed = ⊎_elim
          (λ listed. listed)
          (λ past. absurd (not_not
          (λ all. let listed = (all p holds).listed in absurd (omega arith))))
          (cases_lt (place_of p list) (length list));
      admitted = ⊎_elim
          (λ admitted. admitted)
          (λ refused. absurd (not_not (λ all. false≢true (sym refused ∙ (all p holds).admitted))))
          (cases_Bool (admits m p i));
    }

-- who blocks with some programme is a candidate
pub blocking-candidate : (m : Problem) (held : List (Option ℕ)) (i : ℕ) → BlocksWithSome m held i
    → i < length m.lists
blocking-candidate m held i b =
    candidate_lt m i (place_of b.0 (list_of m i)) b.1.acceptable.listed
