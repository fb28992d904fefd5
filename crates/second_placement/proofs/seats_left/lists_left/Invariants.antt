use Rattle.second_placement.proofs.Lowering.{AreEmptiedUpto}
use Rattle.second_placement.proofs.seats_left.lists_left.Given as goal

abbrev pub invariant-loop-candidate : goal.invariant-loop-candidate
invariant-loop-candidate l = AreEmptiedUpto l.fn.lists.items l.held l.candidate l.lists.items
