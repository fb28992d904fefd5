use Rattle.std.proofs.Common.{arith, ap, ◌∙◌, length, slice_index_or}
use Rattle.market.specs.Dictatorships.{list_at}
use Rattle.word_rule.proofs.Claimant.{read_allowed}
use Rattle.claim_words.proofs.Claims.{next_entry}
use Rattle.claim_words.proofs.claimant.read_entry.Goals as goal

pub load-found-requires : goal.load-found-requires
load-found-requires c =
    let me = c.args.me.now in
    let round = c.args.round.now in
    let x = c.in-Some.claim in
    let next = next_entry round me x c.requires.seat c.in-Some.is c.requires.may in
    let list = c.list.ensures ∙ ap (λ d. list_at d x.turn) c.requires.dict in
    let programme = ap (λ l. slice_index_or l x.passed 0) list in
    let inside = next.programme in
    let word = c.seat_word.ensures in
    let words = round.words_are in (
      c.requires.seat.table,
      omega arith,
      read_allowed round.table.shared.key _ _ _ _ _ _ me.live me.narrow c.requires.seat.dict
          next.may (omega arith),
    )

pub quota-requires : goal.quota-requires
quota-requires c =
    let x = c.in-Some.claim in
    let me = c.args.me.now in
    let round = c.args.round.now in
    let next = next_entry round me x c.requires.seat c.in-Some.is c.requires.may in
    let list = c.list.ensures ∙ ap (λ d. list_at d x.turn) c.requires.dict in
    let programme = ap (λ l. slice_index_or l x.passed 0) list in
    let inside = next.programme in
    let programmes = ap (λ d. length d.quota) c.requires.dict in
    omega arith

pub overflow_add-me : goal.overflow_add-me
overflow_add-me c =
    let x = c.in-Some.claim in
    let me = c.args.me.now in
    let round = c.args.round.now in
    let next = next_entry round me x c.requires.seat c.in-Some.is c.requires.may in
    let short = next.short in
    omega arith
