use Rattle.std.proofs.Common.{◌-◌, ◌≤◌, false, length}
use Rattle.market.specs.Dictatorships.{list_at}
use Rattle.interleaving_core.specs.Core.{claim_at}
use Rattle.word_rule.specs.Rounds.{Stays, knows}
use Rattle.gate_workers.specs.Workers.{HasMoved}
use Rattle.gate_workers.proofs.worker.read_list.Given as goal

abbrev pub invariant-loop-place : goal.invariant-loop-place
invariant-loop-place g l = record {
  stays : Stays l.fn.me l.me;
  moved : HasMoved l.fn.me l.me (claim_at l.turn l.place false false);
  within : l.place ≤ length (list_at (knows l.me).dict l.turn);
}

abbrev pub decreases-loop-place : goal.decreases-loop-place
decreases-loop-place g l = l.places - l.place
