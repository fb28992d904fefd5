use Rattle.std.proofs.Common.{◌≡◌, ℕ, length, []}
use Rattle.std.specs.Prelude.{slice_index_or}
use Rattle.market.specs.Reruns.{IsRunUpto}
use Rattle.dictatorship.proofs.round.run_type.Given as goal

abbrev pub invariant-loop-turn : goal.invariant-loop-turn
invariant-loop-turn l = record {
  types : length l.table ≡ l.market.types;
  row : IsRunUpto l.market l.cuts l.fn.kind l.turn (slice_index_or l.table l.fn.kind []);
  others : (t : ℕ) → (t ≡ l.fn.kind → ⊥)
      → slice_index_or l.table t [] ≡ slice_index_or l.fn.table t [];
}
