use Rattle.std.proofs.Common.{◌≡◌, ◌*◌, ◌≤◌, length}
use Rattle.market.specs.Counting.{sum_below}
use Rattle.market.specs.declared.limits.TheConstants.{MAX_CANDIDATES}
use Rattle.market.specs.Problems.{order_of}
use Rattle.dictatorship.proofs.mechanism.all_turns.Given as goal

abbrev pub invariant-loop-kind : goal.invariant-loop-kind
invariant-loop-kind l = record {
  sum : l.turns ≡ sum_below (λ t. length (order_of l.market t)) l.kind;
  few : l.turns ≤ l.kind * MAX_CANDIDATES;
}
