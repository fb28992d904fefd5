use Rattle.std.proofs.Common.{ℕ, ◌∙◌, ap, length, List, arith}
use Rattle.market.specs.Counting.{sum_below}
use Rattle.market.specs.Problems.{order_of}
use Rattle.market.specs.Mechanism.{turns_of_round}
use Rattle.market.proofs.Dicts.{order-le}
use Rattle.market.proofs.Plain.{sum_next}
use Rattle.dictatorship.proofs.mechanism.all_turns.Goals as goal

pub loop-kind-preserved : goal.loop-kind-preserved
loop-kind-preserved c =
    let m = c.args.market.now in
    let k = c.loop-kind.kind in
    let v = c.order.ensures.valid in
    let n = c.type_count-kind-end.ensures.count in
    let a = order-le m v k (omega arith) in
    let b = v.candidates in
    let e = ap (λ (xs : List ℕ). length xs) c.order.ensures.order in
    record {
      sum = sum_next (λ t. length (order_of m t)) k c.loop-kind.turns (length c.order.result.now)
          c.loop-kind.invariant.sum e;
      few = omega (arith, c.loop-kind.invariant.few);
    }

pub returns-clause-turns : goal.returns-clause-turns
unfolding turns_of_round
returns-clause-turns c =
    let n = c.type_count-kind-end.ensures.count in
    c.loop-kind.invariant.sum
    ∙ ap (sum_below (λ t. length (order_of c.args.market.now t))) (omega arith)
