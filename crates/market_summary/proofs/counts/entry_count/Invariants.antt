use Rattle.std.proofs.Common.{◌≡◌, length}
use Rattle.market.specs.Counting.{sum_below}
use Rattle.market.specs.Problems.{list_of}
use Rattle.market_summary.proofs.counts.entry_count.Given as goal

-- the entries of the candidates before this one
abbrev pub invariant-loop-candidate : goal.invariant-loop-candidate
invariant-loop-candidate l = l.entries ≡ sum_below (λ i. length (list_of l.market i)) l.candidate
