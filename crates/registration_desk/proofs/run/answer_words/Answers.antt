use Rattle.std.proofs.Common.{sym}
use Rattle.registration_desk.specs.Words.{texts}
use Rattle.registration_desk.proofs.Answering.{words-refused}
use Rattle.registration_desk.proofs.run.answer_words.Goals as goal

pub returns-in-Err-clause-answers : goal.returns-in-Err-clause-answers
returns-in-Err-clause-answers g c =
    words-refused _ (texts c.args.words.now) _ c.in-Err.refused _ (sym c.in-Err.ensures.clerks)
