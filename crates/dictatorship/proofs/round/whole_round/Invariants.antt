use Rattle.std.proofs.Common.{◌≡◌, ℕ, ◌<◌, ◌≤◌, length, []}
use Rattle.std.specs.Prelude.{slice_index_or}
use Rattle.market.specs.Problems.{order_of}
use Rattle.market.specs.Reruns.{IsRunUpto}
use Rattle.dictatorship.proofs.round.whole_round.Given as goal

abbrev pub invariant-loop-kind : goal.invariant-loop-kind
invariant-loop-kind l = record {
  types : length l.table ≡ l.market.types;
  done : (t : ℕ) → t < l.kind
      → IsRunUpto l.market l.cuts t (length (order_of l.market t)) (slice_index_or l.table t []);
  left : (t : ℕ) → l.kind ≤ t → t < l.market.types
      → IsRunUpto l.market l.cuts t 0 (slice_index_or l.table t []);
}
