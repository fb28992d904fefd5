use Rattle.std.proofs.Common.{length, ◌∙◌, subst, arith}
use Rattle.stability_audit.specs.Entries.{BlocksWithSome}
use Rattle.stability_audit.proofs.Listed.{blocking-candidate}
use Rattle.stability_audit.proofs.Firsts.{IsFound, item-below, searched}
use Rattle.stability_audit.proofs.auditing.first_to_block.Given as given
use Rattle.stability_audit.proofs.auditing.first_to_block.Goals as goal
use Rattle.stability_audit.proofs.auditing.first_to_block.Goals.{After-position_first-found}

pub position_first-found-requires-clause-items : goal.position_first-found-requires-clause-items
position_first-found-requires-clause-items g c κs within k d l = (
  c.requires.candidates,
  (
    c.requires.bases,
    (
      c.requires.acceptable _,
      item-below _ _ _ k d c.into_par_iter.ensures.0
          (c.into_par_iter.ensures.1 ∙ c.candidate_count.ensures.count) l,
    ),
  ),
)

-- what the search has found
found : (g : given.Over) (c : After-position_first-found g)
    → IsFound (BlocksWithSome c.args.market.now c.args.placement.now)
    (length c.args.market.now.lists) c.position_first-found.result
found g c =
    let few = c.candidate_count.ensures.valid.candidates in
    searched (BlocksWithSome c.args.market.now c.args.placement.now) _ _ _ _
    c.into_par_iter.ensures.0 (c.into_par_iter.ensures.1 ∙ c.candidate_count.ensures.count)
    (omega arith) c.position_first-found.ensures

pub overflow_cast-result : goal.overflow_cast-result
overflow_cast-result g c =
    let first = subst (IsFound _ _) c.in-Some.is
    (found g (goal.at.overflow_cast-result g c).After-position_first-found) in
    let within = first.within in
    let few = c.candidate_count.ensures.valid.candidates in
    omega arith

pub returns-in-Some : goal.returns-in-Some
returns-in-Some g c =
    let first = subst (IsFound _ _) c.in-Some.is
    (found g (goal.at.returns-in-Some g c).After-position_first-found) in
    record { candidate = first.within; blocks = first.holds; first = first.before }

pub returns-in-None : goal.returns-in-None
returns-in-None g c =
    let none = subst (IsFound _ _) c.in-None.is
    (found g (goal.at.returns-in-None g c).After-position_first-found) in
    λ j blocks. none j (blocking-candidate c.args.market.now c.args.placement.now j blocks) blocks
