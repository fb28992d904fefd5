use Rattle.std.proofs.Common.{◌≡◌, ℕ, ◌<◌, length, []}
use Rattle.std.specs.Prelude.{slice_index_or}
use Rattle.market.specs.Problems.{order_of}
use Rattle.market.specs.Tables.{IsTurnTable}
use Rattle.market.proofs.build.turn_tables.Given as goal

abbrev pub invariant-loop-kind : goal.invariant-loop-kind
invariant-loop-kind l = record {
  count : length l.turns.items ≡ l.kind;
  each : (t : ℕ) → t < l.kind
      → IsTurnTable (length l.parts.lists) (order_of l.parts t) (slice_index_or l.turns.items t []);
}
