use Rattle.rank_lists.proofs.Collecting.{AreEachRead-next}
use Rattle.rank_lists.proofs.clean.turns_in_order.Goals as goal

pub loop-kind-preserved : goal.loop-kind-preserved
loop-kind-preserved c =
    rw (c.in_ok-push.ensures.items)
    (AreEachRead-next c.args.parts.now c.loop-kind.turns.items c.turns_in.result c.loop-kind.kind
    c.loop-kind.invariant c.turns_in.ensures)
