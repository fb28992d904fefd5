use Rattle.std.proofs.Common.{ap, ◌∙◌, arith}
use Rattle.market.specs.Counting.{sum_below}
use Rattle.market.specs.Problems.{quota_of}
use Rattle.market.specs.declared.programme.Prog.{Prog}
use Rattle.market.proofs.Plain.{sum_next}
use Rattle.market_summary.specs.Summaries.{seat_count as seat_count_of}
use Rattle.market_summary.proofs.Sums.{few-seats}
use Rattle.market_summary.proofs.counts.seat_count.Goals as goal

pub overflow_add-seats : goal.overflow_add-seats
unfolding quota_of
overflow_add-seats c =
    let m = c.args.market.now in
    let p = c.loop-programme.programme in
    let count = c.programme_count-programme-end.ensures in
    let valid = c.type_count.ensures.valid in
    let few = few-seats m p valid (omega (arith, count)) in
    let sum = c.loop-programme.invariant in
    let quota = c.from-seats.ensures ∙ ap (λ (q : Prog). q.quota) c.programme.ensures in
    let small = valid.quotas p (omega (arith, count)) in
    omega (arith, few, sum, quota, small)

pub loop-programme-preserved : goal.loop-programme-preserved
unfolding quota_of
loop-programme-preserved c =
    sum_next (quota_of c.args.market.now) c.loop-programme.programme c.loop-programme.seats
    c.from-seats.result c.loop-programme.invariant
    (c.from-seats.ensures ∙ ap (λ (q : Prog). q.quota) c.programme.ensures)

pub returns : goal.returns
unfolding seat_count_of
returns c =
    let count = c.programme_count-programme-end.ensures in
    c.loop-programme.invariant ∙ ap (sum_below (quota_of c.args.market.now)) (omega arith)
