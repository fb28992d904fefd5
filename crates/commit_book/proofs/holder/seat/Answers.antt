use Rattle.std.proofs.Common.{arith, ap, ◌∙◌, slice_index_or, Some, ◌≡◌, rules}
use Rattle.interleaving_core.specs.declared.parts.Phase.TheVariants.{Ready}
use Rattle.market.specs.Dictatorships.{list_at}
use Rattle.word_rule.proofs.Holder.{seat_allowed}
use Rattle.commit_book.proofs.Holds.{next_seat}
use Rattle.commit_book.proofs.holder.seat.Goals as goal

pub fetch_add-found-requires : goal.fetch_add-found-requires
fetch_add-found-requires c =
    let me = c.args.me.now in
    let round = c.args.round.now in
    let place = c.in-Some-Ready.place in
    let shown : me.phase ≡ Some (Ready place) = search rules in
    let next = next_seat round me place c.requires.seat shown c.requires.may in
    let list = c.list.ensures ∙ ap (λ d. list_at d me.committed) c.requires.dict in
    let programme = ap (λ l. slice_index_or l place 0) list in
    let inside = next.programme in
    let words = round.words_are in
    let word = c.seat_word-word.ensures in (
      c.requires.seat.table,
      omega arith,
      seat_allowed _ _ _ _ _ _ _ me.live me.narrow next.may (omega arith),
    )
