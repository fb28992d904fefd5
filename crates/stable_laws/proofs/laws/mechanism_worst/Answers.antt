use Rattle.stable_laws.proofs.Worst.{worst}
use Rattle.stable_laws.proofs.laws.mechanism_worst.Goals as goal

pub returns : goal.returns
returns c =
    worst c.args.market.now c.args.wider.now c.type_count.ensures.valid c.type_count-2.ensures.valid
    c.requires.wider c.args.other.now c.requires.stable
