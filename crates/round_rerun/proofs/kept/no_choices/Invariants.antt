use Rattle.std.proofs.Common.{◌≡◌, ℕ, ◌<◌, length, [], replicate}
use Rattle.std.specs.Prelude.{slice_index_or}
use Rattle.market.specs.Problems.{order_of}
use Rattle.round_rerun.specs.declared.kept.TheConstants.{NO_CHOICE}
use Rattle.round_rerun.proofs.kept.no_choices.Given as goal

abbrev pub invariant-loop-kind : goal.invariant-loop-kind
invariant-loop-kind l = record {
  count : length l.chosen.items ≡ l.kind;
  each : (t : ℕ) → t < l.kind → slice_index_or l.chosen.items t []
      ≡ replicate (length (order_of l.market t)) NO_CHOICE;
}
