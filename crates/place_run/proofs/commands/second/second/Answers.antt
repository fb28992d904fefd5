use Rattle.std.proofs.Common.{◌∙◌, refl}
use Rattle.run_frame.proofs.Readings.{answer-made, answer-refused, answer-stopped, file-goes-on, file-stops, granted-as, judged-as, may-go-on, plan-ends, plan-stops, reached}
use Rattle.place_run.specs.commands.Second.{IsSecond, second_of}
use Rattle.place_run.proofs.Answering.{answer-error, both-behind-tables, registered_behind}
use Rattle.place_run.proofs.Seconds.{second-answer}
use Rattle.place_run.proofs.commands.second.second.Goals as goal

pub read_placement-requires : goal.read_placement-requires
read_placement-requires g c =
    granted-as c.in_ok-inputs.ensures.grants c.word.ensures
    (may-go-on (g.H.Shelf.grants c.args.shelf.now) registered_behind c.requires.granted
    c.in_ok-inputs.ensures.reading).0

pub read_registrations-requires : goal.read_registrations-requires
read_registrations-requires g c =
    let four = judged-as c.in_ok-inputs.ensures.files c.word.ensures
    c.in_ok-placement.ensures.judged in
    granted-as (c.in_ok-placement.ensures.grants ∙ c.in_ok-inputs.ensures.grants) c.word-2.ensures
    (reached (may-go-on (g.H.Shelf.grants c.args.shelf.now) registered_behind c.requires.granted
    c.in_ok-inputs.ensures.reading).1 four).0

pub returns-clause-answers : goal.returns-clause-answers
returns-clause-answers g c =
    let four = judged-as c.in_ok-inputs.ensures.files c.word.ensures
    c.in_ok-placement.ensures.judged in
    let five = judged-as (c.in_ok-placement.ensures.files ∙ c.in_ok-inputs.ensures.files)
    c.word-2.ensures c.in_ok-registrations.ensures.judged in
    let reading = both-behind-tables c.in_ok-inputs.ensures.reading
    (file-goes-on _ (refl, λ t. tt) four (file-goes-on _ tt five (plan-ends _ _ _ refl tt))) in
    let both = answer-made second_of IsSecond c.in_ok-answer.answer reading
    c.in_ok-answer.ensures.said
    (second-answer reading.reads _ c.in_ok-answer.answer reading.meets c.in_ok-answer.ensures) in
    record { reading = both.0; promise = both.1 }

pub returns-in_err-inputs-clause-answers : goal.returns-in_err-inputs-clause-answers
returns-in_err-inputs-clause-answers g c =
    answer-error c.from_residual.ensures.1
    (answer-stopped second_of (plan-stops registered_behind c.in_err-inputs.ensures.reading))

pub returns-in_err-placement-clause-answers : goal.returns-in_err-placement-clause-answers
returns-in_err-placement-clause-answers g c =
    let four = judged-as c.in_ok-inputs.ensures.files c.word.ensures
    c.in_err-placement.ensures.judged in
    answer-error c.from_residual-in_err-placement.ensures.1
    (answer-stopped second_of
    (both-behind-tables c.in_ok-inputs.ensures.reading (file-stops _ four)))

pub returns-in_err-registrations-clause-answers : goal.returns-in_err-registrations-clause-answers
returns-in_err-registrations-clause-answers g c =
    let four = judged-as c.in_ok-inputs.ensures.files c.word.ensures
    c.in_ok-placement.ensures.judged in
    let five = judged-as (c.in_ok-placement.ensures.files ∙ c.in_ok-inputs.ensures.files)
    c.word-2.ensures c.in_err-registrations.ensures.judged in
    answer-error c.from_residual-in_err-registrations.ensures.1
    (answer-stopped second_of (both-behind-tables c.in_ok-inputs.ensures.reading
    (file-goes-on _ (refl, λ t. tt) four (file-stops _ five))))

-- memory may be refused once all five files are read
pub returns-in_err-answer-clause-answers : goal.returns-in_err-answer-clause-answers
returns-in_err-answer-clause-answers g c =
    let four = judged-as c.in_ok-inputs.ensures.files c.word.ensures
    c.in_ok-placement.ensures.judged in
    let five = judged-as (c.in_ok-placement.ensures.files ∙ c.in_ok-inputs.ensures.files)
    c.word-2.ensures c.in_ok-registrations.ensures.judged in
    let reading = both-behind-tables c.in_ok-inputs.ensures.reading
    (file-goes-on _ (refl, λ t. tt) four (file-goes-on _ tt five (plan-ends _ _ _ refl tt))) in
    answer-error c.from_residual-in_err-answer.ensures.1 (answer-refused second_of reading)
