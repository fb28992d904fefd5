use Rattle.reserved_seats.proofs.Marking.{AreOffered}
use Rattle.reserved_seats.proofs.expansion.offer_reserved.Given as goal

abbrev pub invariant-loop-candidate : goal.invariant-loop-candidate
invariant-loop-candidate l = AreOffered l.rows l.marked l.initial.lists l.candidate l.lists
