use Rattle.second_placement.proofs.Lowering.{AreLeftAfter}
use Rattle.second_placement.proofs.seats_left.programmes_left.Given as goal

abbrev pub invariant-loop-candidate : goal.invariant-loop-candidate
invariant-loop-candidate l =
    AreLeftAfter l.fn.programmes.items l.held l.registered l.candidate l.programmes.items
