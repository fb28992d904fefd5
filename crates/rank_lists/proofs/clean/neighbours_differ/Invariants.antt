use Rattle.rank_lists.specs.Repeats.{HasUnequalNeighbours}
use Rattle.rank_lists.proofs.clean.neighbours_differ.Given as goal

-- the neighbours so far
abbrev pub invariant-loop-turn : goal.invariant-loop-turn
invariant-loop-turn l = HasUnequalNeighbours l.ranks l.turn
