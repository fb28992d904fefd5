use Rattle.fixed_seats.proofs.HolderCounts.{HasCounted}
use Rattle.fixed_seats.proofs.counting.holders.Given as goal

abbrev pub invariant-loop-holds : goal.invariant-loop-holds
invariant-loop-holds l = HasCounted l.held l.programmes l.counts.items l.holds-index
