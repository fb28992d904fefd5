use Rattle.interleaving_core.proofs.Keeps.{step_keeps, begins, run_keeps}
use Rattle.interleaving_core.proofs.Prefix.{committed_prefix}
use Rattle.interleaving_core.proofs.law.any_run.Goals as goal

pub returns-clause-step : goal.returns-clause-step
returns-clause-step c = step_keeps

pub returns-clause-run : goal.returns-clause-run
returns-clause-run c = λ d workers events e valid run.
    run_keeps d _ events e valid (begins d workers valid) run

pub returns-clause-prefix : goal.returns-clause-prefix
returns-clause-prefix c = λ d workers events e valid run.
    committed_prefix d e (run_keeps d _ events e valid (begins d workers valid) run)
