use Rattle.market.proofs.Rounds.{rounds_end}
use Rattle.stable_laws.proofs.laws.rounds_bounded.Goals as goal

pub returns : goal.returns
returns c = rounds_end c.args.market.now
