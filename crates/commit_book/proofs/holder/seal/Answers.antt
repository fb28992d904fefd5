use Rattle.std.proofs.Common.{arith, ap, ◌∙◌, length, sym}
use Rattle.word_rule.proofs.Holder.{seal_allowed}
use Rattle.commit_book.proofs.Holds.{next_seal}
use Rattle.commit_book.proofs.holder.seal.Goals as goal

pub store-requires : goal.store-requires
store-requires c =
    let me = c.args.me.now in
    let round = c.args.round.now in
    let place = c.place_in-place.result in
    let next = next_seal round me place c.in-Some.phase c.requires.seat c.in-Some.is
    (sym c.place_in-place.ensures) c.requires.may in
    let programmes = c.programmes.ensures.count ∙ ap (λ d. length d.quota) c.requires.dict in
    let words = round.words_are in
    let word = c.cell_word-word.ensures in
    let turn = next.turn in (
      c.requires.seat.table,
      omega arith,
      seal_allowed _ _ _ _ _ _ _ _ _ me.live me.narrow next.may next.turn
          (omega arith) c.committed_at-cell.ensures,
    )
