use Rattle.std.proofs.Common.{◌≡◌, length}
use Rattle.candidate_table.specs.Table.{numbers_of}
use Rattle.programme_table.specs.Table.{codes_of}
use Rattle.place_run.specs.Texts.{AreQueued}
use Rattle.place_run.specs.commands.Reasons.{candidate_rows}
use Rattle.place_run.proofs.RowTexts.{texts_before}
use Rattle.place_run.proofs.reason_rows.queue_rows.Given as goal

-- the rows of the candidates before this one were queued, and no put failed
abbrev pub invariant-loop-candidate : goal.invariant-loop-candidate
invariant-loop-candidate g l = record {
  quiet : g.K.Sink.faults l.out ≡ g.K.Sink.faults l.initial.out;
  so_far : AreQueued (texts_before (candidate_rows (codes_of l.placed.problem.programmes.rows)
      (numbers_of l.placed.problem.numbers) l.placed.problem.market l.placed.placement)
      (length l.placed.problem.market.lists) l.candidate)
      l.initial.rows l.rows (g.K.Sink.written l.initial.out) (g.K.Sink.written l.out);
}
