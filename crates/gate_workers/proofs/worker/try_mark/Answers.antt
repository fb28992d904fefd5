use Rattle.gate_workers.proofs.Points.{has_missed, has_released}
use Rattle.gate_workers.proofs.worker.try_mark.Goals as goal

pub pass-requires-after_bounds : goal.pass-requires-after_bounds
pass-requires-after_bounds g c κs within =
    has_missed c.args.me.now c.take.new.me c.requires.working c.requires.may
    (c.if-not-take.ensures {u = tt}).event

pub pass-requires-3-after_bounds : goal.pass-requires-3-after_bounds
pass-requires-3-after_bounds g c κs within =
    has_released c.args.me.now c.loop-place.me c.look.new.me c.release.new.me _ _ _ _
    c.requires.working c.requires.may c.loop-place.invariant.view
    (c.in_default.ensures {u = tt}).event c.release.ensures.event
