use Rattle.std.proofs.Common.{rules}
use Rattle.word_rule.proofs.Holder.{take_allowed}
use Rattle.commit_book.proofs.holder.take.Goals as goal

pub fetch_or-found-requires : goal.fetch_or-found-requires
fetch_or-found-requires c =
    let me = c.args.me.now in
    (c.requires.seat.table, search rules, take_allowed _ _ _ _ me.live me.narrow c.requires.may)
