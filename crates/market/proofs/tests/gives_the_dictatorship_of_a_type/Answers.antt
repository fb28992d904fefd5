use Rattle.std.proofs.Common.{◌∙◌, ◌≡◌, ◌<◌, ◌≤◌, ℕ, List, length, set, ap, sym, subst, arith, ⊎_elim}
use Rattle.std.specs.Prelude.{slice_index}
use Rattle.std.proofs.lemmas.Bool.{cases_eq}
use Rattle.std.proofs.lemmas.List.{get_or-set_same, get_or-set_other, length-set}
use Rattle.market.specs.Problems.{Problem}
use Rattle.market.specs.Examples.{three_rounds}
use Rattle.market.specs.Mechanism.{IsCuts, whole_cuts}
use Rattle.market.proofs.Plain.{whole_fit}
use Rattle.market.proofs.tests.gives_the_dictatorship_of_a_type.Goals as goal

-- whole lists, one of them cut to a part of it
cut_fits : (m : Problem) (cuts : List ℕ) (i entries : ℕ) → IsCuts m cuts → i < length cuts
    → entries ≤ slice_index cuts i → IsCuts m (set cuts i entries)
cut_fits m cuts i entries f l short = record {
  candidates = length-set cuts i entries ∙ f.candidates;
  within = λ j lj.
      let r = f.within j lj in
      ⊎_elim
      (λ same.
      let at = ap (slice_index (set cuts i entries)) same in
      let before = ap (slice_index cuts) same in
      let now = get_or-set_same cuts i entries 0 l in
      omega arith)
      (λ ne. let now = get_or-set_other cuts i j entries 0 ne in omega arith)
      (cases_eq j i);
}

-- in the example the second list has the two entries that are left of it
room : (m : Problem) (cuts : List ℕ) → cuts ≡ whole_cuts m → m ≡ three_rounds
    → (1 < length cuts) × (2 ≤ slice_index cuts 1)
unfolding whole_cuts
room m cuts e em =
    subst (λ (xs : List ℕ). (1 < length xs) × (2 ≤ slice_index xs 1)) (sym (e ∙ ap whole_cuts em))
    (omega arith, omega arith)

pub turn_lists-requires-clause-cuts : goal.turn_lists-requires-clause-cuts
turn_lists-requires-clause-cuts g c =
    subst (IsCuts c.in_ok-market.market) (sym c.in_ok-cuts.ensures.cuts)
    (whole_fit c.in_ok-market.market)

pub set-requires-clause-candidate : goal.set-requires-clause-candidate
set-requires-clause-candidate g c =
    (room c.in_ok-market.market c.in_ok-cuts.cuts c.in_ok-cuts.ensures.cuts
    c.in_ok-market.ensures).0

pub set-requires-clause-shorter : goal.set-requires-clause-shorter
set-requires-clause-shorter g c =
    (room c.in_ok-market.market c.in_ok-cuts.cuts c.in_ok-cuts.ensures.cuts
    c.in_ok-market.ensures).1

pub cut-requires : goal.cut-requires
cut-requires g c =
    let r =
    room c.in_ok-market.market c.in_ok-cuts.cuts c.in_ok-cuts.ensures.cuts c.in_ok-market.ensures in
    let n = ap (λ (xs : List ℕ). length xs) c.set.ensures in
    let same = length-set c.in_ok-cuts.cuts 1 2 in
    omega (arith, r.0)

pub turn_lists-requires-2-clause-cuts : goal.turn_lists-requires-2-clause-cuts
turn_lists-requires-2-clause-cuts g c =
    let r =
    room c.in_ok-market.market c.in_ok-cuts.cuts c.in_ok-cuts.ensures.cuts c.in_ok-market.ensures in
    let whole =
    subst (IsCuts c.in_ok-market.market) (sym c.in_ok-cuts.ensures.cuts)
    (whole_fit c.in_ok-market.market) in
    subst (IsCuts c.in_ok-market.market) (sym c.set.ensures)
    (cut_fits c.in_ok-market.market c.in_ok-cuts.cuts 1 2 whole r.0 r.1)
