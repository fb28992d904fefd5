use Rattle.std.proofs.Common.{arith}
use Rattle.word_rule.proofs.Holder.{look_allowed}
use Rattle.commit_book.proofs.Holds.{next_look, found_small}
use Rattle.commit_book.proofs.holder.look.Goals as goal

pub load-found-requires : goal.load-found-requires
load-found-requires c =
    let me = c.args.me.now in
    let round = c.args.round.now in
    let left = c.if-me-round.false in
    let turns = round.turns_are in
    let programmes = round.programmes_are in
    let words = round.words_are in
    let word = c.cell_word-word.ensures in
    let may = next_look round me c.requires.may (omega arith) in (
      c.requires.seat.table,
      omega arith,
      look_allowed _ _ _ _ _ _ me.live me.narrow may (omega arith),
    )

pub cell_of-requires : goal.cell_of-requires
cell_of-requires c =
    let small = found_small _ _ _ _ _ _ c.args.round.now.valid c.requires.seat.dict
    c.requires.may.idle c.load-found.ensures.2 in
    omega arith
