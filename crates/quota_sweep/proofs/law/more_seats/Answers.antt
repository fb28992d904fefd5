use Rattle.quota_sweep.proofs.Widening.{more_seats_help}
use Rattle.quota_sweep.proofs.law.more_seats.Goals as goal

pub returns : goal.returns
returns c =
    more_seats_help c.args.market.now c.args.wider.now c.type_count.ensures.valid
    c.type_count-2.ensures.valid c.requires
