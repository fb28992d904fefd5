-- Where each held programme is acceptable to its holder, a programme has no base rank exactly where
-- nobody holds it.
use Rattle.std.proofs.Common.{◌≡◌, ℕ, zero, suc, ◌+◌, ◌<◌, ◌≤◌, Bool, true, false, cond, List, [], ◌∷◌, Option, Some, None, refl, sym, ap, ◌∙◌, arith, ⊎_elim}
use Rattle.std.specs.Prelude.{IsTrue}
use Rattle.std.proofs.lemmas.Bool.{cases_lt}
use Rattle.std.proofs.lemmas.List.Sums.{sum_by-cons}
use Rattle.std.proofs.lemmas.Option.{none-some}
use Rattle.market.specs.Counting.{count_of, is_programme}
use Rattle.market.specs.Problems.{Problem, admits, admits_rank, bar_of, kind_of, rank_of}
use Rattle.market.specs.Stability.{held_by}
use Rattle.market.proofs.Turns.{is_programme-from, is_programme-true}
use Rattle.reports.specs.BaseTables.{BaseTable, HoldsAcceptable, IsBaseTable, IsNoneWhereUnheld, base_of, holder_count}
use Rattle.reports.proofs.WorstHolders.{base_rank-holder, base_rank-most}

count-cons : (p : ℕ) (x : Option ℕ) (held : List (Option ℕ))
    → count_of p (x ∷ held) ≡ cond (is_programme p x) 1 0 + count_of p held
count-cons p x held = sum_by-cons (λ o. cond (is_programme p o) 1 0) x held

-- who holds a programme that is counted
holder-of : (p : ℕ) (held : List (Option ℕ)) → 0 < count_of p held
    → (j : ℕ) × (held_by held j ≡ Some p)
holder-of p [] some = absurd (omega arith)
holder-of p (x ∷ held) some =
    by (is_programme p x) refl (count-cons p x held) (λ later. holder-of p held later)
  where
    by : (b : Bool) → is_programme p x ≡ b → count_of p (x ∷ held) ≡ cond b 1 0 + count_of p held
        → (0 < count_of p held → (j : ℕ) × (held_by held j ≡ Some p))
        → (j : ℕ) × (held_by (x ∷ held) j ≡ Some p)
    by true e count later = (0, is_programme-true p x e)
    by false e count later = let rest = later (omega arith) in (suc rest.0, rest.1)

-- and a holder is counted
counted : (p : ℕ) (held : List (Option ℕ)) (j : ℕ) → held_by held j ≡ Some p → 1 ≤ count_of p held
counted p [] j holds = absurd (none-some p holds)
counted p (x ∷ held) zero holds =
    let count = count-cons p x held in
    let one : cond {A = ℕ} (is_programme p x) 1 0 ≡ 1 =
    ap (λ b. cond {A = ℕ} b 1 0) (is_programme-from p x holds) in
    omega arith
counted p (x ∷ held) (suc j) holds =
    let count = count-cons p x held in
    let rest : 1 ≤ count_of p held = counted p held j holds in
    omega arith

ranked : (bar o : Option ℕ) → IsTrue (admits_rank bar o) → (rank : ℕ) × (o ≡ Some rank)
ranked bar None h = absurd (cc h)
ranked bar (Some rank) h = (rank, refl)

admitted-rank : (m : Problem) (p j : ℕ) → IsTrue (admits m p j)
    → (rank : ℕ) × (rank_of m (kind_of m p) j ≡ Some rank)
unfolding admits
admitted-rank m p j h = ranked (bar_of m p) (rank_of m (kind_of m p) j) h

-- a programme has no base rank exactly where nobody holds it, if all hold what is acceptable
pub none_where_unheld : (m : Problem) (held : List (Option ℕ)) (table : BaseTable)
    → IsBaseTable m held table → HoldsAcceptable m held → IsNoneWhereUnheld m table
none_where_unheld m held table t acceptable p lt = (
  λ none. ⊎_elim
      (λ (some : 0 < holder_count table p).
      let count = t.holders p lt in
      let holder = holder-of p held (omega arith) in
      let rank = admitted-rank m p holder.0 (acceptable holder.0 p holder.1).admitted in
      let worst = base_rank-most m held p holder.0 rank.0 holder.1 rank.1 in
      absurd (none-some worst.worst (sym none ∙ t.bases p lt ∙ worst.is)))
      (λ (zero : holder_count table p ≤ 0). omega arith)
      (cases_lt 0 (holder_count table p)),
  λ unheld. by (base_of table p) refl unheld,
)
  where
    by : (base : Option ℕ) → base_of table p ≡ base → holder_count table p ≡ 0 → base_of table p
        ≡ None
    by None e unheld = e
    by (Some rank) e unheld =
        let holder = base_rank-holder m held p rank (sym (t.bases p lt) ∙ e) in
        let one = counted p held holder.holder holder.holds in
        let count = t.holders p lt in
        absurd (omega arith)
