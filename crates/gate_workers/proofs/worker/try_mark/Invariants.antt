use Rattle.std.proofs.Common.{◌≡◌, ◌-◌, ◌≤◌}
use Rattle.interleaving_core.specs.Core.{turn_count}
use Rattle.word_rule.specs.Rounds.{Stays, knows}
use Rattle.gate_workers.proofs.Points.{at_work}
use Rattle.gate_workers.proofs.worker.try_mark.Given as goal

abbrev pub invariant-loop-place : goal.invariant-loop-place
invariant-loop-place g l = record {
  stays : Stays l.fn.me l.me;
  view : knows l.me
      ≡ at_work (knows l.fn.me) (knows l.me).took l.me.committed (knows l.me).sealed;
  within : (knows l.me).took ≤ l.me.committed;
}

abbrev pub decreases-loop-place : goal.decreases-loop-place
decreases-loop-place g l = turn_count (knows l.fn.me).dict - l.me.committed
