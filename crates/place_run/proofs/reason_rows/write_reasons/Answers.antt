use Rattle.std.proofs.Common.{◌++◌, Err, length, ap, subst, ◌∙◌}
use Rattle.std.specs.List.{flat_map, range_with_len}
use Rattle.candidate_table.specs.Table.{numbers_of}
use Rattle.place_edges.specs.Sink.{IsWritten}
use Rattle.programme_table.specs.Table.{codes_of}
use Rattle.run_frame.proofs.Parts.{at-error}
use Rattle.place_run.specs.commands.Reasons.{candidate_rows, reasons_header, reasons_text}
use Rattle.place_run.proofs.QueuedTexts.{queued-written, unwritten-of}
use Rattle.place_run.proofs.reason_rows.write_reasons.Goals as goal

pub returns-in_err-queue_rows : goal.returns-in_err-queue_rows
unfolding reasons_text
returns-in_err-queue_rows g c =
    let problem = c.args.placed.now.problem in
    let rows = flat_map (candidate_rows (codes_of problem.programmes.rows)
    (numbers_of problem.numbers) problem.market c.args.placed.now.placement)
    (range_with_len 0 (length problem.market.lists)) in
    let header = c.put_row_4.ensures ∙ ap (λ v. v ++ reasons_header) c.new-rows.ensures in
    let error = c.in_err-queue_rows.field-0.0 in
    at-error (λ r. IsWritten (reasons_header ++ rows) r
    (g.K.Sink.written c.args.out.now) (g.K.Sink.written c.queue_rows.new.out)
    (g.K.Sink.faults c.args.out.now) (g.K.Sink.faults c.queue_rows.new.out))
    c.from_residual.result error c.from_residual.ensures.1
    (subst (λ v. IsWritten (v ++ rows) (Err error)
    (g.K.Sink.written c.args.out.now) (g.K.Sink.written c.queue_rows.new.out)
    (g.K.Sink.faults c.args.out.now) (g.K.Sink.faults c.queue_rows.new.out)) header
    (unwritten-of rows error _ _ _ _ _ _ c.in_err-queue_rows.ensures))

pub returns : goal.returns
unfolding reasons_text
returns g c =
    let problem = c.args.placed.now.problem in
    let rows = flat_map (candidate_rows (codes_of problem.programmes.rows)
    (numbers_of problem.numbers) problem.market c.args.placed.now.placement)
    (range_with_len 0 (length problem.market.lists)) in
    let header = c.put_row_4.ensures ∙ ap (λ v. v ++ reasons_header) c.new-rows.ensures in
    let queued = c.in_ok-queue_rows.ensures in
    subst (λ v. IsWritten (v ++ rows) c.write_whole.result
    (g.K.Sink.written c.args.out.now) (g.K.Sink.written c.write_whole.new.sink)
    (g.K.Sink.faults c.args.out.now) (g.K.Sink.faults c.write_whole.new.sink)) header
    (queued-written rows c.write_whole.result _ _ _ _ _ _ _ _ queued.whole queued.quiet
    (subst (λ v. IsWritten v c.write_whole.result
    (g.K.Sink.written c.queue_rows.new.out) (g.K.Sink.written c.write_whole.new.sink)
    (g.K.Sink.faults c.queue_rows.new.out) (g.K.Sink.faults c.write_whole.new.sink))
    c.bytes.ensures.text c.write_whole.ensures))
