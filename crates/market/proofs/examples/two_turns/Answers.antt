use Rattle.market.specs.Examples.{two_turns}
use Rattle.market.proofs.Checks.{two_turns_valid, dictatorship_parts_valid}
use Rattle.market.proofs.examples.two_turns.Goals as goal

pub from_parts-requires : goal.from_parts-requires
from_parts-requires c =
    dictatorship_parts_valid two_turns c.in_ok-quota.quota.items c.in_ok-fill.fill.items
    c.in_ok-lists.lists.items two_turns_valid
    c.in_ok-quota.ensures.items c.in_ok-fill.ensures.items c.in_ok-lists.ensures
