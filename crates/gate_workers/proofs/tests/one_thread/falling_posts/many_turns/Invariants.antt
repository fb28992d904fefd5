use Rattle.std.proofs.Common.{◌≡◌, length}
use Rattle.gate_workers.proofs.ManyTurns.{AreSmall}
use Rattle.gate_workers.proofs.tests.one_thread.falling_posts.many_turns.Given as goal

abbrev pub invariant-loop-turn : goal.invariant-loop-turn
invariant-loop-turn l = record {
  count : length l.lists.items ≡ l.turn;
  small : AreSmall 7 l.lists.items;
}
