use Rattle.registration_desk.proofs.Counts.{replies_more}
use Rattle.registration_desk.proofs.report.count_replies.Goals as goal

pub loop-index-preserved : goal.loop-index-preserved
loop-index-preserved c =
    replies_more c.args.desk.now.history c.loop-index.index c.reply.result c.loop-index.numbers
    c.count.new.self c.reply.ensures.entry c.loop-index.invariant c.count.ensures
