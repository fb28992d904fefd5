use Rattle.interleaving_core.specs.Machines.{IsTeam}
use Rattle.interleaving_core.proofs.opening.fresh_workers.Given as goal

abbrev pub invariant-loop : goal.invariant-loop
invariant-loop l = IsTeam l.counter l.turns l.workers.items
