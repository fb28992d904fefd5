use Rattle.interleaving_core.proofs.Machines.{team_more}
use Rattle.interleaving_core.proofs.opening.fresh_workers.Goals as goal

pub loop-preserved : goal.loop-preserved
loop-preserved c =
    rw c.in_ok-push.ensures.items
    (team_more c.loop.counter c.args.turns c.loop.workers.items c.in_ok-new.field-0 c.loop.invariant
    c.in_ok-new.ensures.fresh c.in_ok-new.ensures.room)
