use Rattle.std.proofs.Common.{sym}
use Rattle.run_frame.specs.Plans.{ends}
use Rattle.run_frame.proofs.Readings.{plan-stops}
use Rattle.place_run.specs.commands.Sweep.{swept}
use Rattle.place_run.proofs.Answering.{answer-error}
use Rattle.place_run.proofs.Sweeps.{sweep-answered, sweep-made, sweep-programme, sweep-refused}
use Rattle.place_run.proofs.commands.sweep.sweep.Goals as goal

pub swept-requires-clause-programme : goal.swept-requires-clause-programme
swept-requires-clause-programme g c κs within =
    sweep-programme c.in_ok-inputs.inputs c.in_ok-problem.problem c.args.code
    c.in-Some.programme c.in_ok-problem.ensures (sym (c.in-Some.ensures {u = tt}))

pub returns-clause-answers : goal.returns-clause-answers
returns-clause-answers g c =
    let a = c.args in
    let made = sweep-made c.in_ok-inputs.inputs c.in_ok-problem.problem a.code c.in-Some.programme
    a.low a.high c.in_ok-table.table c.in_ok-text.text.items c.in_ok-problem.ensures
    (sym (c.in-Some.ensures {u = tt})) c.in_ok-table.ensures c.in_ok-text.ensures in
    let both = sweep-answered a.code a.low a.high c.in_ok-text.text.items
    c.in_ok-inputs.ensures.reading c.done.ensures made in
    record { reading = both.0; promise = both.1 }

pub returns-in_err-inputs-clause-answers : goal.returns-in_err-inputs-clause-answers
returns-in_err-inputs-clause-answers g c =
    answer-error c.from_residual.ensures.1
    (plan-stops (λ tables. ends (swept c.args.code c.args.low c.args.high tables))
    c.in_err-inputs.ensures.reading)

pub returns-in_err-text-clause-answers : goal.returns-in_err-text-clause-answers
returns-in_err-text-clause-answers g c =
    answer-error c.from_residual-in_err-text.ensures.1
    (sweep-refused c.args.code c.args.low c.args.high c.in_ok-inputs.ensures.reading)
