use Rattle.std.proofs.Common.{refl}
use Rattle.run_frame.proofs.Readings.{answer-made, answer-refused, answer-stopped, file-goes-on, file-stops, granted-as, judged-as, may-go-on, plan-ends, plan-stops}
use Rattle.place_run.specs.Says.{held_plan}
use Rattle.place_run.specs.commands.Audit.{IsAudit, audit_of}
use Rattle.place_run.proofs.Answering.{answer-error, behind-tables}
use Rattle.place_run.proofs.Headline.{audit-answer}
use Rattle.place_run.proofs.commands.audit.audit.Goals as goal

pub read_placement-requires : goal.read_placement-requires
read_placement-requires g c =
    granted-as c.in_ok-inputs.ensures.grants c.word.ensures
    (may-go-on (g.H.Shelf.grants c.args.shelf.now) held_plan c.requires.granted
    c.in_ok-inputs.ensures.reading).0

pub returns-clause-answers : goal.returns-clause-answers
returns-clause-answers g c =
    let last = judged-as c.in_ok-inputs.ensures.files c.word.ensures
    c.in_ok-placement.ensures.judged in
    let reading = behind-tables c.in_ok-inputs.ensures.reading
    (file-goes-on _ tt last (plan-ends _ _ _ refl tt)) in
    let both = answer-made audit_of IsAudit c.in_ok-answer.answer reading
    c.in_ok-answer.ensures.said
    (audit-answer reading.reads _ c.in_ok-answer.answer reading.meets c.in_ok-answer.ensures) in
    record { reading = both.0; promise = both.1 }

pub returns-in_err-inputs-clause-answers : goal.returns-in_err-inputs-clause-answers
returns-in_err-inputs-clause-answers g c =
    answer-error c.from_residual.ensures.1
    (answer-stopped audit_of (plan-stops held_plan c.in_err-inputs.ensures.reading))

-- memory may be refused once all four files are read
pub returns-in_err-answer-clause-answers : goal.returns-in_err-answer-clause-answers
returns-in_err-answer-clause-answers g c =
    let last = judged-as c.in_ok-inputs.ensures.files c.word.ensures
    c.in_ok-placement.ensures.judged in
    let reading = behind-tables c.in_ok-inputs.ensures.reading
    (file-goes-on _ tt last (plan-ends _ _ _ refl tt)) in
    answer-error c.from_residual-in_err-answer.ensures.1
    (answer-refused audit_of reading)

pub returns-in_err-placement-clause-answers : goal.returns-in_err-placement-clause-answers
returns-in_err-placement-clause-answers g c =
    let last = judged-as c.in_ok-inputs.ensures.files c.word.ensures
    c.in_err-placement.ensures.judged in
    answer-error c.from_residual-in_err-placement.ensures.1
    (answer-stopped audit_of (behind-tables c.in_ok-inputs.ensures.reading (file-stops _ last)))
