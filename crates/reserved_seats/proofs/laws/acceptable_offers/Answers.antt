use Rattle.reserved_seats.proofs.Acceptance.{offers-acceptable}
use Rattle.reserved_seats.proofs.laws.acceptable_offers.Goals as goal

pub returns : goal.returns
returns c =
    offers-acceptable c.args.market.now c.args.reserved.now c.type_count.ensures.valid
