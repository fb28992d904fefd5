use Rattle.std.proofs.Common.{◌∙◌, ◌<◌, ◌≤◌, length, subst, arith}
use Rattle.candidate_table.specs.Table.{numbers_of}
use Rattle.programme_table.specs.Table.{codes_of}
use Rattle.run_frame.proofs.Parts.{at-error}
use Rattle.place_run.specs.Texts.{AreQueued, IsQueued}
use Rattle.place_run.specs.commands.Reasons.{candidate_rows}
use Rattle.place_run.proofs.QueuedTexts.{queued-more, texts-unqueued, unqueued-of, unwritten-of}
use Rattle.place_run.proofs.RowTexts.{texts-all}
use Rattle.place_run.proofs.reason_rows.queue_rows.Goals as goal
use Rattle.std.specs.List.{flat_map, range_with_len}

pub returns-in_err-queue_candidate : goal.returns-in_err-queue_candidate
returns-in_err-queue_candidate g c =
    let problem = c.args.placed.now.problem in
    let count = length problem.market.lists in
    let text = candidate_rows (codes_of problem.programmes.rows) (numbers_of problem.numbers)
    problem.market c.args.placed.now.placement in
    let counted = c.candidate_count-candidate-end.ensures.count in
    let within : c.loop-candidate.candidate < count = omega
    (arith, counted, c.loop-candidate-test.true) in
    let error = c.in_err-queue_candidate.field-0.0 in
    at-error (λ r. IsQueued (flat_map text (range_with_len 0 count)) r c.args.rows.now
    c.queue_candidate.new.rows (g.K.Sink.written c.args.out.now)
    (g.K.Sink.written c.queue_candidate.new.out)
    (g.K.Sink.faults c.args.out.now) (g.K.Sink.faults c.queue_candidate.new.out))
    c.from_residual.result error c.from_residual.ensures.1
    (unqueued-of _ error _ _ _ _ _ _ (texts-unqueued text count c.loop-candidate.candidate error
    _ _ _ _ _ _ _ _ within c.loop-candidate.invariant.so_far c.loop-candidate.invariant.quiet
    (unwritten-of (text c.loop-candidate.candidate) error _ _ _ _ _ _
    c.in_err-queue_candidate.ensures)))

pub loop-candidate-preserved : goal.loop-candidate-preserved
loop-candidate-preserved g c =
    let problem = c.args.placed.now.problem in
    let count = length problem.market.lists in
    let text = candidate_rows (codes_of problem.programmes.rows) (numbers_of problem.numbers)
    problem.market c.args.placed.now.placement in
    let counted = c.candidate_count-candidate-end.ensures.count in
    let within : c.loop-candidate.candidate < count = omega
    (arith, counted, c.loop-candidate-test.true) in
    let queued = c.in_ok-queue_candidate.ensures in
    record {
      quiet = queued.quiet ∙ c.loop-candidate.invariant.quiet;
      so_far = queued-more text count c.loop-candidate.candidate _ _ _ _ _ _ within
          c.loop-candidate.invariant.so_far queued.whole;
    }

pub returns : goal.returns
returns g c =
    let problem = c.args.placed.now.problem in
    let count = length problem.market.lists in
    let text = candidate_rows (codes_of problem.programmes.rows) (numbers_of problem.numbers)
    problem.market c.args.placed.now.placement in
    let counted = c.candidate_count-candidate-end.ensures.count in
    let all : count ≤ c.loop-candidate.candidate = omega
    (arith, counted, c.loop-candidate-test.false) in
    record {
      whole = subst (λ v. AreQueued v c.args.rows.now c.loop-candidate.rows
          (g.K.Sink.written c.args.out.now) (g.K.Sink.written c.loop-candidate.out))
          (texts-all text count c.loop-candidate.candidate all) c.loop-candidate.invariant.so_far;
      quiet = c.loop-candidate.invariant.quiet;
      prefix = tt;
      failed = tt;
      later = omega (arith, c.loop-candidate.invariant.quiet);
    }
