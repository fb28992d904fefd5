use Rattle.std.proofs.Common.{◌<◌, sym, subst, ◌∙◌}
use Rattle.place_run.proofs.Markets.{is-named}
use Rattle.place_run.proofs.Verdicts.{audit-is, candidates-counted, names-verdict, programmes-counted}
use Rattle.place_run.proofs.commands.audit.audited.Goals as goal

pub audit-requires-clause-candidates : goal.audit-requires-clause-candidates
audit-requires-clause-candidates g c κs within =
    c.requires.candidates
    ∙ sym (candidates-counted c.args.inputs c.in_ok-problem.problem c.in_ok-problem.ensures)

pub audit-requires-clause-programmes : goal.audit-requires-clause-programmes
audit-requires-clause-programmes g c κs within = λ i p holds.
    subst (λ n. p < n)
    (sym (programmes-counted c.args.inputs c.in_ok-problem.problem c.in_ok-problem.ensures))
    (c.requires.programmes i p holds)

pub verdict_text-requires-clause-named : goal.verdict_text-requires-clause-named
verdict_text-requires-clause-named g c =
    is-named c.args.inputs c.in_ok-problem.problem c.in_ok-problem.ensures

pub verdict_text-requires-clause-verdict : goal.verdict_text-requires-clause-verdict
verdict_text-requires-clause-verdict g c =
    let problem = c.in_ok-problem.problem in
    names-verdict problem.market c.args.placement.now c.in_ok-problem.ensures.valid
    (λ i p holds. subst (λ n. p < n)
    (sym (programmes-counted c.args.inputs problem c.in_ok-problem.ensures))
    (c.requires.programmes i p holds))
    (c.requires.candidates ∙ sym (candidates-counted c.args.inputs problem c.in_ok-problem.ensures))
    c.in_ok-verdict.verdict c.in_ok-verdict.ensures.verdict

pub returns : goal.returns
returns g c =
    audit-is c.args.inputs c.in_ok-problem.problem c.args.placement.now c.in_ok-verdict.verdict
    c.audited.result c.ending_of.result c.in_ok-text.text.items c.in_ok-problem.ensures
    c.in_ok-verdict.ensures.verdict c.in_ok-verdict.ensures.stable c.in_ok-verdict.ensures.first
    c.ending_of.ensures c.in_ok-text.ensures c.audited.ensures
