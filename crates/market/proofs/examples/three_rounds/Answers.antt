use Rattle.std.proofs.Common.{◌∷◌, []}
use Rattle.market.specs.Examples.{three_rounds, prog}
use Rattle.market.proofs.Checks.{three_rounds_valid, parts_valid, three_items}
use Rattle.market.proofs.examples.three_rounds.Goals as goal

pub build-requires : goal.build-requires
build-requires c =
    parts_valid three_rounds c.in_ok-programmes.programmes.items c.in_ok-lists.lists.items
    c.in_ok-orders.orders.items c.in_ok-ranks.ranks.items three_rounds_valid
    (three_items c.one_seat.result c.one_seat-2.result c.one_seat-3.result (prog 0 1) (prog 0 1)
    (prog 1 1) c.in_ok-programmes.programmes.items c.in_ok-programmes.ensures.items
    c.one_seat.ensures c.one_seat-2.ensures c.one_seat-3.ensures)
    (three_items c.in_ok-first.first c.in_ok-second.second c.in_ok-third.third
    (0 ∷ 2 ∷ []) (2 ∷ 0 ∷ 1 ∷ []) (1 ∷ []) c.in_ok-lists.lists.items c.in_ok-lists.ensures.items
    c.in_ok-first.ensures c.in_ok-second.ensures c.in_ok-third.ensures)
    c.in_ok-orders.ensures c.in_ok-ranks.ensures
