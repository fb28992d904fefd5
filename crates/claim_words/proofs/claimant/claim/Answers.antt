use Rattle.std.proofs.Common.{rules}
use Rattle.word_rule.proofs.Claimant.{one_share, claim_allowed}
use Rattle.claim_words.proofs.claimant.claim.Goals as goal

pub fetch_add-found-requires : goal.fetch_add-found-requires
fetch_add-found-requires c =
    let me = c.args.me.now in
    let one = one_share _ _ me.live me.narrow c.requires.may.2 in (
      c.requires.seat.table,
      search rules,
      claim_allowed c.args.round.now.table.shared.key _ _ _ one c.requires.may,
    )
