use Rattle.run_frame.proofs.Readings.{answer-refused, answer-stopped}
use Rattle.place_run.specs.Answers.{done}
use Rattle.place_run.specs.commands.Fixed.{IsFixedText, fixed_of}
use Rattle.place_run.proofs.Answering.{answer-error, tables-answered}
use Rattle.place_run.proofs.Headline.{fixed-text}
use Rattle.place_run.proofs.Markets.{fixed-candidates, fixed-every, fixed-made, fixed-programmes}
use Rattle.place_run.proofs.commands.fixed.fixed.Goals as goal

pub fixed_text-requires-clause-candidates : goal.fixed_text-requires-clause-candidates
fixed_text-requires-clause-candidates g c =
    fixed-candidates c.in_ok-inputs.inputs c.in_ok-placed.placed c.in_ok-report.report
    c.in_ok-placed.ensures c.in_ok-report.ensures

pub fixed_text-requires-clause-programmes : goal.fixed_text-requires-clause-programmes
fixed_text-requires-clause-programmes g c =
    fixed-programmes c.in_ok-inputs.inputs c.in_ok-placed.placed c.in_ok-report.report
    c.in_ok-placed.ensures c.in_ok-report.ensures

pub returns-clause-answers : goal.returns-clause-answers
returns-clause-answers g c =
    let reading = c.in_ok-inputs.ensures.reading in
    let tables = c.in_ok-inputs.inputs in
    let seats = c.in_ok-report.report in
    let text = fixed-made tables c.in_ok-placed.placed seats _ c.in_ok-placed.ensures
    c.in_ok-report.ensures c.in_ok-text.ensures in
    let every = fixed-every tables c.in_ok-placed.placed seats c.in_ok-placed.ensures
    c.in_ok-report.ensures in
    let both = tables-answered fixed_of IsFixedText c.in_ok-text.text.items reading
    c.done.ensures text.made (fixed-text reading.reads tables _ reading.meets text every) in
    record { reading = both.0; promise = both.1 }

pub returns-in_err-text-clause-answers : goal.returns-in_err-text-clause-answers
returns-in_err-text-clause-answers g c =
    answer-error c.from_residual-in_err-text.ensures.1
    (answer-refused (λ tables. done (fixed_of tables)) c.in_ok-inputs.ensures.reading)

pub returns-in_err-inputs-clause-answers : goal.returns-in_err-inputs-clause-answers
returns-in_err-inputs-clause-answers g c =
    answer-error c.from_residual.ensures.1
    (answer-stopped (λ tables. done (fixed_of tables)) c.in_err-inputs.ensures.reading)
