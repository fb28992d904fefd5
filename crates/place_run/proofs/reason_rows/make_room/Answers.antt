use Rattle.std.proofs.Common.{◌++◌, [], Err, refl, sym, ap, subst, append-nil, ◌∙◌, arith}
use Rattle.place_edges.specs.Sink.{Appended, IsWritten}
use Rattle.run_frame.proofs.Parts.{at-error}
use Rattle.place_run.specs.Texts.{IsQueued}
use Rattle.place_run.proofs.QueuedTexts.{queued-nothing, unqueued-of}
use Rattle.place_run.proofs.reason_rows.make_room.Goals as goal

pub returns-else-room-lt-ROW-clause-queued : goal.returns-else-room-lt-ROW-clause-queued
returns-else-room-lt-ROW-clause-queued g c = record {
  whole = queued-nothing c.args.rows.now (g.K.Sink.written c.args.out.now)
      (g.K.Sink.written c.args.out.now) refl;
  quiet = refl;
  prefix = tt;
  failed = tt;
  later = omega arith;
}

pub returns-in_ok-write_whole-clause-queued : goal.returns-in_ok-write_whole-clause-queued
returns-in_ok-write_whole-clause-queued g c = record {
  whole = record {
    bytes = c.args.rows.now;
    written = subst (λ v. Appended (g.K.Sink.written c.args.out.now)
        (g.K.Sink.written c.write_whole.new.sink) v) c.bytes.ensures.text
        c.in_ok-write_whole.ensures.whole;
    rest = ap (λ v. c.args.rows.now ++ v) c.clear.ensures;
  };
  quiet = c.in_ok-write_whole.ensures.quiet;
  prefix = tt;
  failed = tt;
  later = c.in_ok-write_whole.ensures.later;
}

pub returns-in_err-write_whole-clause-queued : goal.returns-in_err-write_whole-clause-queued
returns-in_err-write_whole-clause-queued g c =
    let error = c.in_err-write_whole.field-0.0 in
    let same = c.bytes.ensures.text ∙ sym (append-nil c.args.rows.now) in
    at-error (λ r. IsQueued [] r c.args.rows.now c.args.rows.now
    (g.K.Sink.written c.args.out.now) (g.K.Sink.written c.write_whole.new.sink)
    (g.K.Sink.faults c.args.out.now) (g.K.Sink.faults c.write_whole.new.sink))
    c.from_residual.result error c.from_residual.ensures.1
    (unqueued-of [] error _ _ _ _ _ _ (subst (λ v. IsWritten v (Err error)
    (g.K.Sink.written c.args.out.now) (g.K.Sink.written c.write_whole.new.sink)
    (g.K.Sink.faults c.args.out.now) (g.K.Sink.faults c.write_whole.new.sink)) same
    c.in_err-write_whole.ensures))
