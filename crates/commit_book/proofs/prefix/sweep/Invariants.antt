use Rattle.std.proofs.Common.{◌≡◌, ◌+◌, ◌-◌}
use Rattle.interleaving_core.specs.Core.{turn_count}
use Rattle.word_rule.specs.Holder.{having_sealed}
use Rattle.word_rule.specs.Rounds.{Stays, knows}
use Rattle.commit_book.proofs.prefix.sweep.Given as goal

abbrev pub invariant-loop-place : goal.invariant-loop-place
invariant-loop-place l = record {
  stays : Stays l.fn.me l.me;
  view : knows l.me ≡ having_sealed (knows l.fn.me) l.fn.me.committed l.count;
}

abbrev pub decreases-loop-place : goal.decreases-loop-place
decreases-loop-place l = turn_count (knows l.fn.me).dict - (l.fn.me.committed + l.count)
