use Rattle.fixed_seats.proofs.Shared.{better_than_others}
use Rattle.fixed_seats.proofs.laws.better_holders.Goals as goal

pub returns : goal.returns
returns c =
    better_than_others c.args.market.now c.type_count.ensures.valid c.args.other.now c.requires
