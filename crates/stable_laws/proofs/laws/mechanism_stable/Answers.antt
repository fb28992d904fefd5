use Rattle.stable_laws.proofs.Stable.{stable}
use Rattle.stable_laws.proofs.laws.mechanism_stable.Goals as goal

pub returns : goal.returns
returns c = stable c.args.market.now c.type_count.ensures.valid
