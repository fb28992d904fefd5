use Rattle.std.proofs.Common.{◌≡◌, take, map}
use Rattle.market.specs.Problems.{quota_of}
use Rattle.market.proofs.market.Market.quotas.Given as goal

abbrev pub invariant-loop-programme : goal.invariant-loop-programme
invariant-loop-programme l = l.quota.items ≡ map (quota_of l.self) (take l.programme-index
    l.members)
