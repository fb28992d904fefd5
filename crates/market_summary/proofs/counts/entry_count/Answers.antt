use Rattle.std.proofs.Common.{ℕ, List, length, ap, ◌∙◌, arith}
use Rattle.market.specs.Counting.{sum_below}
use Rattle.market.specs.Mechanism.{entry_count as entry_count_of}
use Rattle.market.specs.Problems.{list_of}
use Rattle.market_summary.proofs.Sums.{few-entries}
use Rattle.market_summary.proofs.counts.entry_count.Goals as goal

pub overflow_add-entries : goal.overflow_add-entries
overflow_add-entries c =
    let m = c.args.market.now in
    let k = c.loop-candidate.candidate in
    let count = c.candidate_count-candidate-end.ensures.count in
    let valid = c.list.ensures.valid in
    let few = few-entries m k valid (omega (arith, count)) in
    let sum = c.loop-candidate.invariant in
    let listed = ap (λ (xs : List ℕ). length xs) c.list.ensures.list in
    let short = valid.list_lengths k (omega (arith, count)) in
    omega (arith, few, sum, listed, short)

pub returns : goal.returns
unfolding entry_count_of
returns c =
    let count = c.candidate_count-candidate-end.ensures.count in
    c.loop-candidate.invariant
    ∙ ap (sum_below (λ i. length (list_of c.args.market.now i))) (omega arith)
