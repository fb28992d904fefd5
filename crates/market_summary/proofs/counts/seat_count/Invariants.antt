use Rattle.std.proofs.Common.{◌≡◌}
use Rattle.market.specs.Counting.{sum_below}
use Rattle.market.specs.Problems.{quota_of}
use Rattle.market_summary.proofs.counts.seat_count.Given as goal

-- the seats of the programmes before this one
abbrev pub invariant-loop-programme : goal.invariant-loop-programme
invariant-loop-programme l = l.seats ≡ sum_below (quota_of l.market) l.programme
