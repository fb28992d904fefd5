use Rattle.std.proofs.Common.{◌≡◌, ◌+◌, ◌-◌, length}
use Rattle.interleaving_core.specs.Core.{turn_count}
use Rattle.word_rule.specs.Rounds.{knows, Stays}
use Rattle.gate_workers.specs.Workers.{IsReady}
use Rattle.gate_workers.proofs.worker.work.Given as goal

abbrev pub invariant-loop-turn : goal.invariant-loop-turn
invariant-loop-turn g l = record {
  ready : IsReady l.round l.me;
  stays : Stays l.fn.me l.me;
  tries : (knows l.me).tries + length (knows l.fn.me).core.own
      ≡ (knows l.fn.me).tries + length (knows l.me).core.own;
}

abbrev pub decreases-loop-turn : goal.decreases-loop-turn
decreases-loop-turn g l = turn_count (knows l.me).dict - length (knows l.me).core.own
