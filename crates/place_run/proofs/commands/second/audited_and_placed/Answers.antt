use Rattle.std.proofs.Common.{◌<◌, Bool, List, length, sym, subst, ap, ◌∙◌}
use Rattle.place_run.specs.Seconds.{IsSecondOf}
use Rattle.place_run.proofs.Headline.{audited_with}
use Rattle.place_run.proofs.Markets.{is-named}
use Rattle.place_run.proofs.Seconds.{registered_with, second-placed, second-refused}
use Rattle.place_run.proofs.Verdicts.{audit-is, candidates-counted, names-verdict, programmes-counted}
use Rattle.place_run.proofs.commands.second.audited_and_placed.Goals as goal

pub audit-requires-clause-candidates : goal.audit-requires-clause-candidates
audit-requires-clause-candidates g c κs within =
    c.requires.candidates
    ∙ sym (candidates-counted c.args.inputs c.in_ok-problem.problem c.in_ok-problem.ensures)

pub audit-requires-clause-programmes : goal.audit-requires-clause-programmes
audit-requires-clause-programmes g c κs within = λ i p holds.
    subst (λ n. p < n)
    (sym (programmes-counted c.args.inputs c.in_ok-problem.problem c.in_ok-problem.ensures))
    (c.requires.programmes i p holds)

pub second_text-requires-clause-valid : goal.second_text-requires-clause-valid
second_text-requires-clause-valid g c κs within = c.in_ok-problem.ensures.valid

pub second_text-requires-clause-named : goal.second_text-requires-clause-named
second_text-requires-clause-named g c κs within =
    is-named c.args.inputs c.in_ok-problem.problem c.in_ok-problem.ensures

pub second_text-requires-clause-placement : goal.second_text-requires-clause-placement
second_text-requires-clause-placement g c κs within =
    (c.in_ok-verdict.ensures.stable.0 c.in-Stable.is).placement

pub second_text-requires-clause-registered : goal.second_text-requires-clause-registered
second_text-requires-clause-registered g c κs within =
    ap length c.registered-registered.ensures ∙ c.requires.registered
    ∙ sym (candidates-counted c.args.inputs c.in_ok-problem.problem c.in_ok-problem.ensures)

pub returns-in-Stable : goal.returns-in-Stable
returns-in-Stable g c =
    let first = c.in_ok-verdict.ensures in
    subst (λ (registered : List Bool). IsSecondOf (registered_with
    (audited_with c.args.inputs c.args.placement.now) registered) c.done.result)
    c.registered-registered.ensures
    (second-placed c.args.inputs c.in_ok-problem.problem c.args.placement.now
    c.registered-registered.result.now c.in_ok-verdict.verdict c.done.result
    c.in_ok-text.text.items c.in_ok-problem.ensures first.verdict first.stable first.first
    c.in-Stable.is c.in_ok-text.ensures c.done.ensures)

pub verdict_text-requires : goal.verdict_text-requires
verdict_text-requires g c =
    let problem = c.in_ok-problem.problem in
    record {
      named = is-named c.args.inputs problem c.in_ok-problem.ensures;
      verdict = names-verdict problem.market c.args.placement.now c.in_ok-problem.ensures.valid
          (λ i p holds. subst (λ n. p < n)
          (sym (programmes-counted c.args.inputs problem c.in_ok-problem.ensures))
          (c.requires.programmes i p holds))
          (c.requires.candidates
          ∙ sym (candidates-counted c.args.inputs problem c.in_ok-problem.ensures))
          c.in_ok-verdict.verdict c.in_ok-verdict.ensures.verdict;
    }

pub returns : goal.returns
returns g c =
    let first = c.in_ok-verdict.ensures in
    second-refused c.args.inputs c.in_ok-problem.problem c.args.placement.now
    c.args.registrations.now c.in_ok-verdict.verdict c.audited.result c.in_ok-problem.ensures
    first.verdict first.stable first.first c.in_default.not-Stable
    (audit-is c.args.inputs c.in_ok-problem.problem c.args.placement.now c.in_ok-verdict.verdict
    c.audited.result c.ending_of.result c.in_ok-text-2.text.items c.in_ok-problem.ensures
    first.verdict first.stable first.first c.ending_of.ensures c.in_ok-text-2.ensures
    c.audited.ensures)
