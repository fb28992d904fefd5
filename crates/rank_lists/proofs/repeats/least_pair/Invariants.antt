use Rattle.std.proofs.Common.{◌+◌, ◌≤◌, length}
use Rattle.rank_lists.specs.Repeats.{IsLeastPair}
use Rattle.rank_lists.proofs.repeats.least_pair.Given as goal

-- the least pair so far
abbrev pub invariant-loop-index : goal.invariant-loop-index
invariant-loop-index l = record {
  within : l.index ≤ length l.sorted + 1;
  least : IsLeastPair l.sorted l.index l.least;
}
