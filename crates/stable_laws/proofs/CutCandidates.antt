-- Whoever was cut has a tentative programme, in each round from then on.
--
-- A candidate is cut just after the best of several tentative programmes. That one is kept, since
-- the cut lies behind it; and since shorter lists free seats, the candidate takes it or a better
-- one again. So a list that is cut is never read to its end in vain.
use Rattle.std.proofs.Common.{◌≡◌, ℕ, zero, suc, ◌<◌, List, length, Some, sym, ap, ◌∙◌, subst, arith, ⊎_elim}
use Rattle.std.specs.Prelude.{slice_index}
use Rattle.std.proofs.lemmas.Bool.{cases_Bool}
use Rattle.market.specs.Problems.{Problem, place_of, kind_of, list_of}
use Rattle.market.specs.Mechanism.{tentative, has_several, next_cuts, cuts_after}
use Rattle.market.proofs.Tentatives.{tentative-takes}
use Rattle.market.proofs.Rounds.{several-takes, IsBest, best_by, next_cut-same, next_cut-several, next_cuts-at, next_cuts-le, cuts_after-suc, cuts_after-zero}
use Rattle.stable_laws.proofs.FreeSeats.{still_takes}

-- what is kept of the list ends with the best programme taken
pub kept_best : (m : Problem) (cuts : List ℕ) (t i p : ℕ) → i < length m.lists
    → tentative m cuts t i ≡ Some p
    → (b : ℕ) × IsBest m cuts i b × (place_of b (list_of m i) < slice_index (next_cuts m cuts) i)
kept_best m cuts t i p l e =
    let r = best_by m cuts t i p e in
    let at = next_cuts-at m cuts i l in
    let x = tentative-takes m cuts (kind_of m r.best) i r.best r.is_best.takes in (
      r.best,
      r.is_best,
      ⊎_elim
          (λ s. let n = next_cut-several m cuts i s in omega (arith, r.is_best.place))
          (λ s. let n = next_cut-same m cuts i s in omega (arith, x.within))
          (cases_Bool (has_several m cuts i)),
    )

-- the candidate has a tentative programme in some type
pub record TakesSome (m : Problem) (cuts : List ℕ) (i : ℕ) : Type 0 where
  pub kind : ℕ
  pub programme : ℕ
  pub takes : tentative m cuts kind i ≡ Some programme

-- whoever was cut has one
abbrev pub CutTakes : Problem → List ℕ → Type 0
CutTakes m cuts =
    (i : ℕ) → i < length m.lists → slice_index cuts i < length (list_of m i) → TakesSome m cuts i

-- who takes a programme in one round takes one in the next
takes_next : (m : Problem) (cuts : List ℕ) (t i p : ℕ) → i < length m.lists
    → tentative m cuts t i ≡ Some p → TakesSome m (next_cuts m cuts) i
takes_next m cuts t i p l e =
    let b = kept_best m cuts t i p l e in
    let r =
    still_takes m cuts (next_cuts m cuts) (kind_of m b.0) i b.0 (next_cuts-le m cuts)
    b.1.takes b.2 in
    record { kind = kind_of m b.0; programme = r.entry; takes = r.takes }

-- in each round whoever is cut takes a programme
pub cut_takes : (m : Problem) (r : ℕ) → CutTakes m (cuts_after m r)
cut_takes m zero i l short = let whole = cuts_after-zero m i in absurd (omega arith)
cut_takes m (suc r) i l short =
    let cuts = cuts_after m r in
    let e = cuts_after-suc m r in
    let at = ap (λ (c : List ℕ). slice_index c i) e ∙ next_cuts-at m cuts i l in
    subst (λ (c : List ℕ). TakesSome m c i) (sym e)
    (⊎_elim
    (λ several.
    let two = several-takes m cuts i several in
    takes_next m cuts two.first_kind i two.first l two.takes_first)
    (λ not_several.
    let same = next_cut-same m cuts i not_several in
    let before = cut_takes m r i l (omega arith) in
    takes_next m cuts before.kind i before.programme l before.takes)
    (cases_Bool (has_several m cuts i)))
