use Rattle.std.proofs.Common.{◌≡◌, [], replicate}
use Rattle.case_maker.proofs.candidates.no_keys.Given as goal

abbrev pub invariant-loop-kind : goal.invariant-loop-kind
invariant-loop-kind l = l.keys.items ≡ replicate l._kind []
