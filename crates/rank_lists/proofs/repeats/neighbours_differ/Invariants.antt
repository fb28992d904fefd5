use Rattle.rank_lists.specs.Repeats.{HasUnequalNeighbours}
use Rattle.rank_lists.proofs.repeats.neighbours_differ.Given as goal

-- the neighbours so far
abbrev pub invariant-loop-index : goal.invariant-loop-index
invariant-loop-index l = HasUnequalNeighbours l.sorted l.index
