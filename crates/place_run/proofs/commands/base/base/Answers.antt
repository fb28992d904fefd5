use Rattle.run_frame.proofs.Readings.{answer-refused, answer-stopped}
use Rattle.place_run.specs.Answers.{done}
use Rattle.place_run.specs.commands.Base.{IsBaseText, bases_of}
use Rattle.place_run.proofs.Answering.{answer-error, tables-answered}
use Rattle.place_run.proofs.Headline.{bases-text}
use Rattle.place_run.proofs.Markets.{named-placement, bases-made}
use Rattle.place_run.proofs.commands.base.base.Goals as goal

pub base_text-requires : goal.base_text-requires
base_text-requires g c =
    named-placement c.in_ok-inputs.inputs c.in_ok-placed.placed c.in_ok-placed.ensures

pub returns-clause-answers : goal.returns-clause-answers
returns-clause-answers g c =
    let reading = c.in_ok-inputs.ensures.reading in
    let text = bases-made c.in_ok-inputs.inputs c.in_ok-placed.placed _ c.in_ok-placed.ensures
    c.in_ok-text.ensures in
    let both = tables-answered bases_of IsBaseText c.in_ok-text.text.items reading
    c.done.ensures text.made (bases-text reading.reads c.in_ok-inputs.inputs _ reading.meets text)
    in
    record { reading = both.0; promise = both.1 }

pub returns-in_err-text-clause-answers : goal.returns-in_err-text-clause-answers
returns-in_err-text-clause-answers g c =
    answer-error c.from_residual-in_err-text.ensures.1
    (answer-refused (λ tables. done (bases_of tables)) c.in_ok-inputs.ensures.reading)

pub returns-in_err-inputs-clause-answers : goal.returns-in_err-inputs-clause-answers
returns-in_err-inputs-clause-answers g c =
    answer-error c.from_residual.ensures.1
    (answer-stopped (λ tables. done (bases_of tables)) c.in_err-inputs.ensures.reading)
