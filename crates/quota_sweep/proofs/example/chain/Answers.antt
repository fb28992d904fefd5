use Rattle.std.proofs.Common.{[], ◌∷◌, List, ℕ, ap, ◌∙◌}
use Rattle.market.proofs.Checks.{parts_valid}
use Rattle.quota_sweep.specs.Examples.{chain}
use Rattle.quota_sweep.proofs.Examples.{chain_valid, five_lists}
use Rattle.quota_sweep.proofs.example.chain.Goals as goal

pub build-requires : goal.build-requires
build-requires c =
    parts_valid chain c.in_ok-programmes.programmes.items c.in_ok-lists.lists.items
    c.in_ok-orders.orders.items c.in_ok-ranks.ranks.items chain_valid
    c.in_ok-programmes.ensures.items
    (five_lists _ _ _ _ _ _ _ _ _ _ _ c.in_ok-lists.ensures.items c.in_ok-first.ensures
    c.in_ok-second.ensures c.in_ok-third.ensures c.in_ok-fourth.ensures c.in_ok-fifth.ensures)
    (c.in_ok-orders.ensures.items ∙ ap (λ (xs : List ℕ). xs ∷ []) c.in_ok-order.ensures)
    (c.in_ok-ranks.ensures.items ∙ ap (λ (xs : List ℕ). xs ∷ []) c.in_ok-rank.ensures)
