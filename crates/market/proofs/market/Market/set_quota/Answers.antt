use Rattle.std.proofs.Common.{ap, length, sym, subst, arith}
use Rattle.market.specs.Problems.{Problem}
use Rattle.market.specs.TypeLists.{HasTables}
use Rattle.market.proofs.Quotas.{tables-same}
use Rattle.market.proofs.market.Market.set_quota.Goals as goal

pub invariant_of-self : goal.invariant_of-self
invariant_of-self c =
    let s = c.self.inside in
    let n = ap (λ (m : Problem). length m.programmes) c.self.view_is in
    subst (λ (m : Problem). HasTables m s.turns.items s.members.items s.locals.items
    s.type_lists.items) (sym c.set_quota.ensures)
    (tables-same s.parts c.args.programme c.args.quota (omega (arith, c.requires.programme))
    s.turns.items s.members.items s.locals.items s.type_lists.items c.self.invariant)
