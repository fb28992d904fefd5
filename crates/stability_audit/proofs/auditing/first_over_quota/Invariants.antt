use Rattle.std.proofs.Common.{ℕ, ◌<◌}
use Rattle.stability_audit.specs.Verdicts.{IsOverQuota}
use Rattle.stability_audit.proofs.auditing.first_over_quota.Given as goal

abbrev pub invariant-loop-programme : goal.invariant-loop-programme
invariant-loop-programme l =
    (q : ℕ) → q < l.programme → IsOverQuota l.market l.placement q → ⊥
