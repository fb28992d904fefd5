use Rattle.std.proofs.Common.{subst}
use Rattle.run_frame.specs.Lines.{IsNoted}
use Rattle.run_frame.proofs.Endings.{constant-count}
use Rattle.registration_desk.specs.Statuses.{status_line}
use Rattle.registration_desk.specs.declared.report.DeskNumbers.{DeskNumbers}
use Rattle.registration_desk.proofs.Finishing.{causes-run, complete-run, leaves-sink, quiet-run, registered-run}
use Rattle.registration_desk.proofs.run.run_desk.Goals as goal

pub returns-clause-run : goal.returns-clause-run
returns-clause-run g c = record {
  answer = c.answer_words-answer.result;
  answers = c.answer_words-answer.ensures.answers;
  finished = c.finish-status.ensures.finished;
  line = subst (λ (v : DeskNumbers). IsNoted (status_line v c.finish-status.result)
      (g.N.Sink.written c.args.notes.now) (g.N.Sink.written c.note.new.notes)
      (g.N.Sink.faults c.args.notes.now) (g.N.Sink.faults c.note.new.notes))
      c.numbers_in-numbers.ensures c.note.ensures;
}

pub returns-clause-registered : goal.returns-clause-registered
returns-clause-registered g c = registered-run (returns-clause-run g c)

pub returns-clause-quiet : goal.returns-clause-quiet
returns-clause-quiet g c = quiet-run (returns-clause-run g c)

pub returns-clause-complete : goal.returns-clause-complete
returns-clause-complete g c = complete-run (returns-clause-run g c)

pub returns-clause-sure : goal.returns-clause-sure
returns-clause-sure g c = λ constant_shelf constant_sink.
    complete-run (returns-clause-run g c)
    (constant-count g.H.Shelf.faults c.args.shelf.now c.answer_words-answer.new.shelf
    constant_shelf)
    (constant-count g.K.Sink.faults c.args.out.now c.finish-status.new.out constant_sink)

pub returns-clause-causes : goal.returns-clause-causes
unfolding returns-clause-run
returns-clause-causes g c =
    causes-run (returns-clause-run g c) c.answer_words-answer.ensures.refused

pub returns-clause-sink : goal.returns-clause-sink
returns-clause-sink g c = leaves-sink (returns-clause-run g c) c.finish-status.ensures.later
