use Rattle.run_frame.proofs.Endings.{constant-count}
use Rattle.place_run.proofs.Finishing.{causes-run, complete-run, leaves-sink, quiet-run, reports-done, second-done, summary-done, sweep-done, unread-run, verdict-done, worst-done}
use Rattle.place_run.proofs.run.run_words.Goals as goal

pub returns-clause-run : goal.returns-clause-run
returns-clause-run g c = record {
  answer = c.answer_words-answer.result;
  answers = c.answer_words-answer.ensures.answers;
  finished = c.finish-status.ensures.finished;
}

pub returns-clause-worst : goal.returns-clause-worst
returns-clause-worst g c = worst-done (returns-clause-run g c)

pub returns-clause-reports : goal.returns-clause-reports
returns-clause-reports g c = reports-done (returns-clause-run g c)

pub returns-clause-verdict : goal.returns-clause-verdict
returns-clause-verdict g c = verdict-done (returns-clause-run g c)

pub returns-clause-sweep : goal.returns-clause-sweep
returns-clause-sweep g c = sweep-done (returns-clause-run g c)

pub returns-clause-second : goal.returns-clause-second
returns-clause-second g c = second-done (returns-clause-run g c)

pub returns-clause-summary : goal.returns-clause-summary
returns-clause-summary g c = summary-done (returns-clause-run g c)

pub returns-clause-sink : goal.returns-clause-sink
returns-clause-sink g c = leaves-sink (returns-clause-run g c) c.finish-status.ensures.later

pub returns-clause-causes : goal.returns-clause-causes
unfolding returns-clause-run
returns-clause-causes g c =
    causes-run (returns-clause-run g c) c.answer_words-answer.ensures.refused

pub returns-clause-quiet : goal.returns-clause-quiet
returns-clause-quiet g c = quiet-run (returns-clause-run g c)

pub returns-clause-complete : goal.returns-clause-complete
returns-clause-complete g c = complete-run (returns-clause-run g c)

pub returns-clause-sure : goal.returns-clause-sure
returns-clause-sure g c = λ constant_shelf constant_sink.
    complete-run (returns-clause-run g c)
    (constant-count g.H.Shelf.faults c.args.shelf.now c.answer_words-answer.new.shelf
    constant_shelf)
    (constant-count g.K.Sink.faults c.args.out.now c.finish-status.new.out constant_sink)

pub returns-clause-unread : goal.returns-clause-unread
unfolding returns-clause-run
returns-clause-unread g c =
    unread-run (returns-clause-run g c) c.args.shelf.now c.answer_words-answer.new.shelf
    c.answer_words-answer.ensures.unread
