use Rattle.std.proofs.Common.{[], ◌∷◌, List, ℕ, ap, ◌∙◌}
use Rattle.market.proofs.Checks.{parts_valid}
use Rattle.second_placement.specs.Examples.{three_for_two}
use Rattle.second_placement.proofs.Examples.{three_lists, valid}
use Rattle.second_placement.proofs.example.three_for_two.Goals as goal

pub build-requires : goal.build-requires
build-requires c =
    parts_valid three_for_two c.in_ok-programmes.programmes.items c.in_ok-lists.lists.items
    c.in_ok-orders.orders.items c.in_ok-ranks.ranks.items valid c.in_ok-programmes.ensures.items
    (three_lists _ _ _ _ _ _ _ c.in_ok-lists.ensures.items c.in_ok-first.ensures
    c.in_ok-second.ensures c.in_ok-third.ensures)
    (c.in_ok-orders.ensures.items ∙ ap (λ (xs : List ℕ). xs ∷ []) c.in_ok-order.ensures)
    (c.in_ok-ranks.ensures.items ∙ ap (λ (xs : List ℕ). xs ∷ []) c.in_ok-rank.ensures)
