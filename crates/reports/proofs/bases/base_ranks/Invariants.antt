use Rattle.reports.proofs.Holders.{HasCounted}
use Rattle.reports.proofs.bases.base_ranks.Given as goal

abbrev pub invariant-loop-candidate : goal.invariant-loop-candidate
invariant-loop-candidate l = HasCounted l.market l.placement l.found l.candidate
