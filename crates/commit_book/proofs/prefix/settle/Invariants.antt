use Rattle.std.proofs.Common.{◌≡◌}
use Rattle.interleaving_core.specs.declared.parts.Phase.TheVariants.{Scan}
use Rattle.word_rule.specs.Rounds.{Stays, knows}
use Rattle.word_rule.specs.Holder.{as_holder}
use Rattle.commit_book.proofs.prefix.settle.Given as goal

abbrev pub invariant-loop-entry : goal.invariant-loop-entry
invariant-loop-entry l = record {
  stays : Stays l.fn.me l.me;
  view : knows l.me ≡ as_holder (knows l.fn.me) l.fn.me.committed (Scan l._entry);
}
