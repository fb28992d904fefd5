use Rattle.market.specs.Examples.{exchange, prog}
use Rattle.market.proofs.Checks.{exchange_valid, parts_valid, two_items}
use Rattle.market.proofs.examples.exchange.Goals as goal

pub build-requires : goal.build-requires
build-requires c =
    parts_valid exchange c.in_ok-programmes.programmes.items c.in_ok-lists.lists.items
    c.in_ok-orders.orders.items c.in_ok-ranks.ranks.items exchange_valid
    (two_items c.one_seat.result c.one_seat-2.result (prog 0 1) (prog 1 1)
    c.in_ok-programmes.programmes.items c.in_ok-programmes.ensures.items c.one_seat.ensures
    c.one_seat-2.ensures)
    c.in_ok-lists.ensures c.in_ok-orders.ensures
    c.in_ok-ranks.ensures
