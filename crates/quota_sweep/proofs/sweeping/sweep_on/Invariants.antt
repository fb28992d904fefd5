use Rattle.quota_sweep.proofs.Rows.{IsSweptUpto}
use Rattle.quota_sweep.proofs.sweeping.sweep_on.Given as goal

abbrev pub invariant-loop-index : goal.invariant-loop-index
invariant-loop-index g l =
    IsSweptUpto l.fn.market l.programme l.low l.index l.market l.rows.items l.before
