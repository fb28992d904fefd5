use Rattle.std.proofs.Common.{arith, ap, ◌∙◌, length, slice_index_or}
use Rattle.market.specs.Dictatorships.{list_at}
use Rattle.word_rule.proofs.Claimant.{flags_allowed}
use Rattle.full_flags.proofs.Looks.{next_look}
use Rattle.full_flags.proofs.calls.read_flags.Goals as goal

pub load-found-requires : goal.load-found-requires
load-found-requires c =
    let me = c.args.me.now in
    let round = c.args.round.now in
    let x = c.in-Some.claim in
    let next = next_look round me x c.requires.seat c.in-Some.is c.requires.may in
    let list = c.list.ensures ∙ ap (λ d. list_at d x.turn) c.requires.dict in
    let programme = ap (λ l. slice_index_or l x.passed 0) list in
    let inside = next.programme in
    let programmes = c.programmes.ensures.count ∙ ap (λ d. length d.quota) c.requires.dict in
    let turns = c.turns.ensures.count ∙ ap (λ d. length d.lists) c.requires.dict in
    let word = c.flag_word-word.ensures in
    let words = round.words_are in (
      c.requires.seat.table,
      omega arith,
      flags_allowed round.table.shared.key _ _ _ _ _ _ me.live me.narrow c.requires.seat.dict
          next.may (omega arith),
    )

pub returns-clause-full : goal.returns-clause-full
returns-clause-full c = λ s i h live. h.full i _ live
