use Rattle.std.proofs.Common.{rules}
use Rattle.word_rule.proofs.Holder.{release_allowed}
use Rattle.commit_book.proofs.Holds.{next_release}
use Rattle.commit_book.proofs.holder.release.Goals as goal

pub store-requires : goal.store-requires
store-requires c =
    let me = c.args.me.now in
    let round = c.args.round.now in
    let next = next_release round me c.requires.seat c.requires.may in (
      c.requires.seat.table,
      search rules,
      release_allowed _ _ _ _ _ _ _ me.live me.narrow next.may c.free_mark-freed.ensures,
    )
