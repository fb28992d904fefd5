use Rattle.std.proofs.Common.{◌≡◌, false}
use Rattle.word_rule.specs.Rounds.{knows, IsSeatOf}
use Rattle.gate_workers.proofs.tests.one_thread.falling_posts.works.Given as goal

abbrev pub invariant-loop-entry : goal.invariant-loop-entry
invariant-loop-entry g l = record {
  seat : IsSeatOf l.round l.me;
  share : (knows l.me).share ≡ (knows l.fn.me).share;
  working : (knows l.me).core.done ≡ false;
}
