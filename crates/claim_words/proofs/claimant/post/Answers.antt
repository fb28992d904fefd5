use Rattle.std.proofs.Common.{arith, ap, ◌∙◌, length}
use Rattle.word_rule.proofs.Claimant.{post_allowed}
use Rattle.claim_words.proofs.Claims.{next_post}
use Rattle.claim_words.proofs.claimant.post.Goals as goal

pub store-requires : goal.store-requires
store-requires c =
    let me = c.args.me.now in
    let round = c.args.round.now in
    let next = next_post round me c.in-Some.claim c.requires.seat c.in-Some.is c.requires.may in
    let programmes = c.programmes.ensures.count ∙ ap (λ d. length d.quota) c.requires.dict in
    let words = round.words_are in
    let word = c.cell_word-word.ensures in
    let turn = next.turn in (
      c.requires.seat.table,
      omega arith,
      post_allowed round.table.shared.key _ _ _ _ _ _ _ _ _ me.live me.narrow next.may
          (omega arith) c.posted_at-cell.ensures,
    )
