use Rattle.commit_book.proofs.Sweeps.{swept_so}
use Rattle.commit_book.proofs.prefix.sweep.Goals as goal

pub returns-clause-swept : goal.returns-clause-swept
returns-clause-swept c =
    swept_so c.args.me.now c.loop-place.me c.look.new.me c.release.new.me c.loop-place.count
    c.loop-place.invariant.view (c.in_default.ensures {u = tt}).event c.release.ensures.event
