use Rattle.stability_audit.proofs.Looking.{HasPassed}
use Rattle.stability_audit.proofs.candidate.blocking_entry.Given as goal

abbrev pub invariant-loop-programme : goal.invariant-loop-programme
invariant-loop-programme l = HasPassed l.market l.placement l.candidate l.programme-index
