use Rattle.std.proofs.Common.{◌≡◌, length}
use Rattle.candidate_table.specs.Table.{numbers_of}
use Rattle.market.specs.Problems.{list_of}
use Rattle.programme_table.specs.Table.{codes_of}
use Rattle.place_run.specs.Texts.{AreQueued}
use Rattle.place_run.specs.commands.Reasons.{entry_row}
use Rattle.place_run.proofs.RowTexts.{texts_before}
use Rattle.place_run.proofs.reason_rows.queue_candidate.Given as goal

-- the rows of the entries before this one were queued, and no put failed
abbrev pub invariant-loop-place : goal.invariant-loop-place
invariant-loop-place g l = record {
  quiet : g.K.Sink.faults l.out ≡ g.K.Sink.faults l.initial.out;
  so_far : AreQueued (texts_before (entry_row (codes_of l.placed.problem.programmes.rows)
      (numbers_of l.placed.problem.numbers) l.placed.problem.market l.placed.placement l.candidate)
      (length (list_of l.placed.problem.market l.candidate)) l.place)
      l.initial.rows l.rows (g.K.Sink.written l.initial.out) (g.K.Sink.written l.out);
}
