use Rattle.fixed_seats.proofs.Shared.{fills_as_mechanism}
use Rattle.fixed_seats.proofs.laws.same_everywhere.Goals as goal

pub returns : goal.returns
returns c =
    fills_as_mechanism c.args.market.now c.type_count.ensures.valid c.args.other.now c.requires
