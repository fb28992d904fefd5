use Rattle.std.proofs.Common.{◌∙◌, ◌<◌, ◌≤◌, ◌++◌, [], Err, length, ap, subst, append-nil, arith}
use Rattle.candidate_table.specs.Table.{numbers_of}
use Rattle.market.specs.Problems.{list_of}
use Rattle.programme_table.specs.Table.{codes_of}
use Rattle.run_frame.proofs.Parts.{at-error}
use Rattle.place_run.specs.Texts.{AreQueued, IsQueued}
use Rattle.place_run.specs.commands.Reasons.{candidate_rows, entry_row}
use Rattle.place_run.proofs.QueuedTexts.{queued-more, queued-put, texts-unqueued, unqueued-of, unwritten-of}
use Rattle.place_run.proofs.RowTexts.{texts-all}
use Rattle.place_run.proofs.WrittenTexts.{unwritten-first}
use Rattle.place_run.proofs.reason_rows.queue_candidate.Goals as goal
use Rattle.std.specs.List.{flat_map, range_with_len}
use Rattle.place_edges.specs.Sink.{IsWritten}

pub returns-in_err-make_room : goal.returns-in_err-make_room
unfolding candidate_rows
returns-in_err-make_room g c =
    let problem = c.args.placed.now.problem in
    let row = entry_row (codes_of problem.programmes.rows) (numbers_of problem.numbers)
    problem.market c.args.placed.now.placement c.args.candidate in
    let count = length (list_of problem.market c.args.candidate) in
    let listed = ap length c.list.ensures.list in
    let within : c.loop-place.place < count = omega
    (arith, listed, c.loop-place-test.true) in
    let error = c.in_err-make_room.field-0.0 in
    let held = c.loop-place.rows in
    let failed = unwritten-first (held ++ []) (row c.loop-place.place) error _ _ _ _
    (unwritten-of [] error held _ _ _ _ _ c.in_err-make_room.ensures.queued) in
    let whole = subst (λ v. IsWritten (v ++ row c.loop-place.place) (Err error)
    (g.K.Sink.written c.loop-place.out) (g.K.Sink.written c.make_room.new.out)
    (g.K.Sink.faults c.loop-place.out) (g.K.Sink.faults c.make_room.new.out))
    (append-nil held) failed in
    at-error (λ r. IsQueued (flat_map row (range_with_len 0 count)) r c.args.rows.now
    c.make_room.new.rows (g.K.Sink.written c.args.out.now) (g.K.Sink.written c.make_room.new.out)
    (g.K.Sink.faults c.args.out.now) (g.K.Sink.faults c.make_room.new.out))
    c.from_residual.result error c.from_residual.ensures.1
    (unqueued-of _ error _ _ _ _ _ _ (texts-unqueued row count c.loop-place.place error _ held _ _
    _ _ _ _ within c.loop-place.invariant.so_far c.loop-place.invariant.quiet whole))

pub loop-place-preserved : goal.loop-place-preserved
loop-place-preserved g c =
    let problem = c.args.placed.now.problem in
    let row = entry_row (codes_of problem.programmes.rows) (numbers_of problem.numbers)
    problem.market c.args.placed.now.placement c.args.candidate in
    let count = length (list_of problem.market c.args.candidate) in
    let listed = ap length c.list.ensures.list in
    let within : c.loop-place.place < count = omega
    (arith, listed, c.loop-place-test.true) in
    let room = c.in_ok-make_room.ensures.queued in
    record {
      quiet = room.quiet ∙ c.loop-place.invariant.quiet;
      so_far = queued-more row count c.loop-place.place _ _ _ _ _ _ within
          c.loop-place.invariant.so_far
          (queued-put [] (row c.loop-place.place) _ _ _ _ _ room.whole c.put_entry.ensures);
    }

pub returns : goal.returns
unfolding candidate_rows
returns g c =
    let problem = c.args.placed.now.problem in
    let row = entry_row (codes_of problem.programmes.rows) (numbers_of problem.numbers)
    problem.market c.args.placed.now.placement c.args.candidate in
    let count = length (list_of problem.market c.args.candidate) in
    let listed = ap length c.list.ensures.list in
    let entries = c.list.ensures.valid.list_lengths c.args.candidate c.requires.candidate in
    let all : count ≤ c.loop-place.place = omega
    (arith, listed, entries, c.loop-place-test.false) in
    record {
      whole = subst (λ v. AreQueued v c.args.rows.now c.loop-place.rows
          (g.K.Sink.written c.args.out.now) (g.K.Sink.written c.loop-place.out))
          (texts-all row count c.loop-place.place all) c.loop-place.invariant.so_far;
      quiet = c.loop-place.invariant.quiet;
      prefix = tt;
      failed = tt;
      later = omega (arith, c.loop-place.invariant.quiet);
    }
