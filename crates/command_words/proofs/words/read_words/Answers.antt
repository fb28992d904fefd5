use Rattle.std.proofs.Common.{Ok, Err, option_copied, ap, ◌∙◌}
use Rattle.command_words.specs.Forms.{asked as command_asked}
use Rattle.command_words.specs.Words.{form_of, texts}
use Rattle.command_words.proofs.Lines.{meant, missing, small_places}
use Rattle.command_words.proofs.words.read_words.Goals as goal

pub overflow_add-form : goal.overflow_add-form
overflow_add-form c =
    (small_places c.as_bytes.result.now c.in-Some-find_form.form
    (c.in-Some-find_form.ensures {u = tt})).option

pub read_option-requires : goal.read_option-requires
read_option-requires c =
    (small_places c.as_bytes.result.now c.in-Some-find_form.form
    (c.in-Some-find_form.ensures {u = tt})).option_few

pub overflow_add-form-in-Ok : goal.overflow_add-form-in-Ok
overflow_add-form-in-Ok c =
    (small_places c.as_bytes.result.now c.in-Some-find_form.form
    (c.in-Some-find_form.ensures {u = tt})).workers

pub returns-then-further-wanted : goal.returns-then-further-wanted
returns-then-further-wanted c =
    missing c.args.words.now c.in-Some.first.now c.in-Some.further.now c.in-Some-find_form.form
    c.in-Some.ensures.cases
    (c.in-Some-find_form.ensures {u = tt} ∙ ap form_of c.as_bytes.ensures.value)
    c.if-further-wanted.true

pub returns-in-Ok : goal.returns-in-Ok
returns-in-Ok c =
    let form = c.in-Some-find_form.form in
    let further = c.in-Some.further.now in
    c.asked.ensures
    ∙ ap (command_asked form.kind (texts further)) c.read_workers-workers.ensures
    ∙ meant c.args.words.now c.in-Some.first.now further form (Ok (option_copied c.in-Ok.option))
    c.in-Some.ensures.cases
    (c.in-Some-find_form.ensures {u = tt} ∙ ap form_of c.as_bytes.ensures.value)
    c.if-further-wanted.false (c.in-Ok.ensures {u = tt})

pub returns-in-Err : goal.returns-in-Err
returns-in-Err c =
    meant c.args.words.now c.in-Some.first.now c.in-Some.further.now c.in-Some-find_form.form
    (Err c.in-Err.refused) c.in-Some.ensures.cases
    (c.in-Some-find_form.ensures {u = tt} ∙ ap form_of c.as_bytes.ensures.value)
    c.if-further-wanted.false (c.in-Err.ensures {u = tt})
