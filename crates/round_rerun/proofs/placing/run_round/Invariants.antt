use Rattle.std.proofs.Common.{◌≡◌, ℕ, ◌+◌, ◌-◌, ◌*◌, ◌<◌, ◌≤◌, length, []}
use Rattle.std.specs.Prelude.{slice_index_or}
use Rattle.market.specs.declared.limits.TheConstants.{MAX_CANDIDATES}
use Rattle.market.specs.Problems.{order_of}
use Rattle.market.specs.Counting.{sum_below}
use Rattle.market.specs.Reruns.{IsRunUpto}
use Rattle.round_rerun.specs.Runs.{first_turn_of}
use Rattle.round_rerun.specs.Kept.{IsKept, KeepsUnmarked}
use Rattle.round_rerun.proofs.placing.run_round.Given as goal

abbrev pub invariant-loop-kind : goal.invariant-loop-kind
invariant-loop-kind g l = record {
  choices : IsKept l.market l.kept;
  unmarked : KeepsUnmarked l.fn.kept l.kept;
  ran : (t : ℕ) → t < l.kind → IsRunUpto l.market l.cuts t (length (order_of l.market t))
      (slice_index_or l.kept.table t []);
  open' : (t : ℕ) → l.kind ≤ t → slice_index_or l.kept.table t [] ≡ slice_index_or l.fn.kept.table t
      [];
  count : l.done ≡ sum_below (λ t. length (order_of l.market t) - first_turn_of l.market
      l.touched.first
      t) l.kind;
  few : l.done ≤ l.kind * MAX_CANDIDATES;
  steps : l.turns ≡ l.fn.turns + l.done;
}
