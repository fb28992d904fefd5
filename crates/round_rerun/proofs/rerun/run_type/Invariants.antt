use Rattle.std.proofs.Common.{◌≡◌, ℕ, ◌+◌, []}
use Rattle.std.specs.Prelude.{slice_index_or}
use Rattle.market.specs.Reruns.{IsRunUpto}
use Rattle.round_rerun.specs.Kept.{IsKept, KeepsUnmarked}
use Rattle.round_rerun.proofs.rerun.run_type.Given as goal

abbrev pub invariant-loop-turn : goal.invariant-loop-turn
invariant-loop-turn g l = record {
  row : IsRunUpto l.market l.cuts l.fn.kind (l.fn.from + l.turn) (slice_index_or l.kept.table
      l.fn.kind []);
  others : (t : ℕ) → (t ≡ l.fn.kind → ⊥) → slice_index_or l.kept.table t [] ≡ slice_index_or
      l.fn.kept.table t [];
  choices : IsKept l.market l.kept;
  unmarked : KeepsUnmarked l.fn.kept l.kept;
}
