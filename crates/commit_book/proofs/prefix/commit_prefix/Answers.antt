use Rattle.commit_book.proofs.Sweeps.{is_idle, swept_of}
use Rattle.commit_book.proofs.prefix.commit_prefix.Goals as goal

pub sweep-requires-clause-idle : goal.sweep-requires-clause-idle
sweep-requires-clause-idle c =
    is_idle c.args.me.now c.take.new.me (c.if-not-take.ensures {u = tt}).event

pub returns-clause-event : goal.returns-clause-event
returns-clause-event c =
    swept_of c.args.me.now c.take.new.me (c.if-not-take.ensures {u = tt}).event c.sweep.new.me
    c.sweep.result c.sweep.ensures.swept
