use Rattle.std.proofs.Common.{length, ◌∙◌, subst, arith}
use Rattle.stability_audit.specs.Verdicts.{HeldIsAcceptable}
use Rattle.stability_audit.proofs.FirstSaid.{holder-within}
use Rattle.stability_audit.proofs.Listed.{not_unacceptable}
use Rattle.stability_audit.proofs.Firsts.{IsFound, item-below, searched}
use Rattle.stability_audit.proofs.auditing.first_not_acceptable.Given as given
use Rattle.stability_audit.proofs.auditing.first_not_acceptable.Goals as goal
use Rattle.stability_audit.proofs.auditing.first_not_acceptable.Goals.{After-position_first-found}

pub position_first-found-requires-clause-items : goal.position_first-found-requires-clause-items
position_first-found-requires-clause-items g c κs within k d l = (
  c.requires.candidates,
  (
    c.requires.programmes,
    item-below _ _ _ k d c.into_par_iter.ensures.0
        (c.into_par_iter.ensures.1 ∙ c.candidate_count.ensures.count) l,
  ),
)

-- what the search has found
found : (g : given.Over) (c : After-position_first-found g)
    → IsFound (λ i. HeldIsAcceptable c.args.market.now c.args.placement.now i → ⊥)
    (length c.args.market.now.lists) c.position_first-found.result
found g c =
    let few = c.candidate_count.ensures.valid.candidates in
    searched (λ i. HeldIsAcceptable c.args.market.now c.args.placement.now i → ⊥) _ _ _ _
    c.into_par_iter.ensures.0 (c.into_par_iter.ensures.1 ∙ c.candidate_count.ensures.count)
    (omega arith) c.position_first-found.ensures

pub overflow_cast-result : goal.overflow_cast-result
overflow_cast-result g c =
    let first = subst (IsFound _ _) c.in-Some.is
    (found g (goal.at.overflow_cast-result g c).After-position_first-found) in
    let within = first.within in
    let few = c.candidate_count.ensures.valid.candidates in
    omega arith

pub returns-in-Some : goal.returns-in-Some
returns-in-Some g c =
    let first = subst (IsFound _ _) c.in-Some.is
    (found g (goal.at.returns-in-Some g c).After-position_first-found) in
    record {
      unacceptable = first.holds;
      first = λ j l.
          not_unacceptable c.args.market.now c.args.placement.now j (first.before j l);
    }

pub returns-in-None : goal.returns-in-None
returns-in-None g c =
    let none = subst (IsFound _ _) c.in-None.is
    (found g (goal.at.returns-in-None g c).After-position_first-found) in
    λ j. not_unacceptable c.args.market.now c.args.placement.now j (λ never.
    none j (holder-within c.args.market.now c.args.placement.now j c.requires.candidates never)
    never)
