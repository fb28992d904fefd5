use Rattle.std.proofs.Common.{◌≡◌, ◌+◌, vec_len}
use Rattle.word_rule.specs.Rounds.{knows, key_of, IsOver, AreOver, shares_of, sealed_in}
use Rattle.word_rule.proofs.opening.join_all.Given as goal

abbrev pub invariant-loop-other : goal.invariant-loop-other
invariant-loop-other l = record {
  mine : IsOver l.round l.me;
  others : AreOver l.round l.seats.items;
  all : (knows l.me).share + shares_of l.seats.items ≡ (key_of l.round).workers;
  sealed : (knows l.me).sealed + sealed_in l.seats.items ≡ sealed_in l.fn.seats.items;
}

abbrev pub decreases-loop-other : goal.decreases-loop-other
decreases-loop-other l = vec_len l.seats
