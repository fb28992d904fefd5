use Rattle.market.specs.Examples.{rank_bars}
use Rattle.market.proofs.Checks.{rank_bars_valid, parts_valid}
use Rattle.market.proofs.examples.rank_bars.Goals as goal

pub build-requires : goal.build-requires
build-requires c =
    parts_valid rank_bars c.in_ok-programmes.programmes.items c.in_ok-lists.lists.items
    c.in_ok-orders.orders.items c.in_ok-ranks.ranks.items rank_bars_valid
    c.in_ok-programmes.ensures.items c.in_ok-lists.ensures c.in_ok-orders.ensures
    c.in_ok-ranks.ensures
