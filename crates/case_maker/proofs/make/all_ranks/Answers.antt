use Rattle.std.proofs.Common.{ℕ, ◌≤◌, ◌∙◌, List, [], length, subst, sym, arith}
use Rattle.std.proofs.lemmas.List.{get_or_read}
use Rattle.market.specs.declared.limits.TheConstants.{MAX_CANDIDATES}
use Rattle.case_maker.proofs.make.all_ranks.Goals as goal

-- the order at hand has no more candidates than a market
order_small : (c : goal.After-items) → length c.items.result.now ≤ MAX_CANDIDATES
order_small c =
    let k = c.loop-order.order-index in
    let inside = c.loop-order-test.true in
    subst (λ (xs : List ℕ). length xs ≤ MAX_CANDIDATES)
    (sym (c.items.ensures
    ∙ get_or_read c.args.orders.now k c.order-item.result inside c.order-item.is []))
    (c.requires k inside)

pub overflow_cast-items : goal.overflow_cast-items
overflow_cast-items c = let few = order_small c in omega arith

pub rising_ranks-requires : goal.rising_ranks-requires
rising_ranks-requires c = order_small c
