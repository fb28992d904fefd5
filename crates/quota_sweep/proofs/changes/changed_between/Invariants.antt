use Rattle.std.proofs.Common.{◌≡◌, not}
use Rattle.market.specs.Counting.{count_below}
use Rattle.market.specs.Stability.{held_by}
use Rattle.quota_sweep.specs.Sweeps.{is_same}
use Rattle.quota_sweep.proofs.changes.changed_between.Given as goal

abbrev pub invariant-loop-candidate : goal.invariant-loop-candidate
invariant-loop-candidate l =
    l.count
    ≡ count_below (λ i. not (is_same (held_by l.before i) (held_by l.now i))) l.candidate
