use Rattle.std.proofs.Common.{◌∙◌, sym, subst, arith}
use Rattle.market.specs.Dictatorships.{dictatorship}
use Rattle.market.specs.LocalNumbers.{local_dictatorship, ChoosesAlike}
use Rattle.market.proofs.Dicts.{dict_valid}
use Rattle.market.proofs.Locals.{local-choice}
use Rattle.market.proofs.market.Market.dict.Goals as goal

pub from_flat-requires : goal.from_flat-requires
from_flat-requires c =
    dict_valid c.args.self.now c.turn_lists.ensures.valid c.args.kind c.args.cuts.now
    c.args.fill.now c.in_ok-quota.quota.items c.in_ok-fill.fill.items c.in_ok-lists.lists
    _ c.requires.kind c.requires.fill (omega arith) c.in_ok-quota.ensures
    c.in_ok-fill.ensures.items c.in_ok-lists.ensures.lists

pub returns-clause-dictatorship : goal.returns-clause-dictatorship
unfolding local_dictatorship
returns-clause-dictatorship c =
    c.from_flat.ensures
    ∙ (λ i. dictatorship (c.in_ok-quota.ensures i) (c.in_ok-fill.ensures.items i)
    (c.in_ok-lists.ensures.lists i))

pub returns-clause-alike : goal.returns-clause-alike
returns-clause-alike c fills =
    subst (ChoosesAlike c.args.self.now c.args.cuts.now c.args.kind c.args.from_turn)
    (sym (returns-clause-dictatorship c))
    (local-choice c.args.self.now c.turn_lists.ensures.valid c.args.cuts.now c.args.fill.now
    c.args.kind c.args.from_turn c.requires.kind fills)
