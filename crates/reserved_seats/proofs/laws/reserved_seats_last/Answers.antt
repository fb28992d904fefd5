use Rattle.reserved_seats.proofs.ReservedLast.{reserved-last}
use Rattle.reserved_seats.proofs.laws.reserved_seats_last.Goals as goal

pub returns : goal.returns
returns c =
    reserved-last c.args.market.now c.args.reserved.now c.type_count.ensures.valid
    c.args.placement.now c.requires
