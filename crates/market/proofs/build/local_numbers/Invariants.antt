use Rattle.market.proofs.Members.{IsCounts, IsLocalsUpto}
use Rattle.market.proofs.build.local_numbers.Given as goal

abbrev pub invariant-loop-programme : goal.invariant-loop-programme
invariant-loop-programme l = record {
  counts : IsCounts l.programmes l.parts.types l.counts.items l.programme-index;
  locals : IsLocalsUpto l.programmes l.locals.items l.programme-index;
}
