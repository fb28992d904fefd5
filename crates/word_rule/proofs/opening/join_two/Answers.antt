use Rattle.std.proofs.Common.{rules}
use Rattle.word_rule.proofs.Shares.{join_keeps}
use Rattle.word_rule.proofs.opening.join_two.Goals as goal

pub join_seat-requires : goal.join_seat-requires
join_seat-requires c =
    let p = c.requires.over.0 in
    let q = c.requires.over.1 in (
      p.of_round.table,
      q.of_round.table,
      c.args.other.bare,
      search rules,
      join_keeps _ _ _ _ _
          record { live = c.args.me.now.live; done = p.done; claim = p.claim; hold = p.hold }
          record { live = c.args.other.live; done = q.done; claim = q.claim; hold = q.hold },
    )
