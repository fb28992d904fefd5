use Rattle.std.proofs.Common.{◌≡◌, ◌+◌, vec_len}
use Rattle.word_rule.specs.Rounds.{AreOver, shares_of}
use Rattle.gate_workers.specs.Seats.{AreWorking}
use Rattle.gate_workers.proofs.tests.one_thread.falling_posts.end_all.Given as goal

abbrev pub invariant-loop-me : goal.invariant-loop-me
invariant-loop-me g l = record {
  left : AreWorking l.round l.seats.items;
  over : AreOver l.round l.over.items;
  shares : shares_of l.over.items + shares_of l.seats.items ≡ shares_of l.fn.seats.items;
}

abbrev pub decreases-loop-me : goal.decreases-loop-me
decreases-loop-me g l = vec_len l.seats
