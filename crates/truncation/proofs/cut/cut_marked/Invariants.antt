use Rattle.truncation.proofs.Cutting.{IsCuttingUpto}
use Rattle.truncation.proofs.cut.cut_marked.Given as goal

abbrev pub invariant-loop-candidate : goal.invariant-loop-candidate
invariant-loop-candidate l =
    IsCuttingUpto l.market l.tentative l.fn.cuts l.candidate l.cuts l.touched
