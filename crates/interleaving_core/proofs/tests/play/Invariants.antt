use Rattle.std.proofs.Common.{◌≡◌, length}
use Rattle.interleaving_core.proofs.tests.play.Given as goal

abbrev pub invariant-loop-worker : goal.invariant-loop-worker
invariant-loop-worker g l = record {
  all : length l.state.core.views ≡ l.workers;
  dict : l.state.dict ≡ l.initial.state.dict;
}
