use Rattle.run_frame.proofs.Readings.{answer-refused, answer-stopped}
use Rattle.place_run.specs.Answers.{done}
use Rattle.place_run.specs.commands.Reasons.{IsReasonsText, reasons_of}
use Rattle.place_run.proofs.Answering.{answer-error, tables-answered}
use Rattle.place_run.proofs.Headline.{reasons-text}
use Rattle.place_run.proofs.Markets.{filled-in, named-placement, reasons-made}
use Rattle.place_run.proofs.commands.reasons.reasons.Goals as goal

pub base_ranks-requires-clause-programmes : goal.base_ranks-requires-clause-programmes
base_ranks-requires-clause-programmes g c =
    (named-placement c.in_ok-inputs.inputs c.in_ok-placed.placed c.in_ok-placed.ensures).programmes

pub new-requires-clause-named : goal.new-requires-clause-named
new-requires-clause-named g c =
    named-placement c.in_ok-inputs.inputs c.in_ok-placed.placed c.in_ok-placed.ensures

pub returns-clause-answers : goal.returns-clause-answers
returns-clause-answers g c =
    let reading = c.in_ok-inputs.ensures.reading in
    let text = reasons-made c.in_ok-inputs.inputs c.in_ok-placed.placed _ c.in_ok-placed.ensures
    c.new.ensures in
    let filled = filled-in c.in_ok-inputs.inputs c.in_ok-placed.placed c.in_ok-placed.ensures
    c.full_entries_are_filled.ensures in
    let both = tables-answered reasons_of IsReasonsText c.new.result reading c.reasons.ensures
    text.made (reasons-text reading.reads c.in_ok-inputs.inputs _ reading.meets text filled) in
    record { reading = both.0; promise = both.1 }

pub returns-in_err-bases-clause-answers : goal.returns-in_err-bases-clause-answers
returns-in_err-bases-clause-answers g c =
    answer-error c.from_residual-in_err-bases.ensures.1
    (answer-refused (λ tables. done (reasons_of tables)) c.in_ok-inputs.ensures.reading)

pub returns-in_err-inputs-clause-answers : goal.returns-in_err-inputs-clause-answers
returns-in_err-inputs-clause-answers g c =
    answer-error c.from_residual.ensures.1
    (answer-stopped (λ tables. done (reasons_of tables)) c.in_err-inputs.ensures.reading)
