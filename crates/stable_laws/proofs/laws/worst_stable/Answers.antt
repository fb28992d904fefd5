use Rattle.stable_laws.proofs.Worst.{worst_of_stable}
use Rattle.stable_laws.proofs.laws.worst_stable.Goals as goal

pub returns : goal.returns
returns c = worst_of_stable c.args.market.now c.type_count.ensures.valid
