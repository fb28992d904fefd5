use Rattle.std.proofs.Common.{◌≡◌, ◌++◌, take}
use Rattle.market.specs.TypeLists.{items_below}
use Rattle.market.proofs.type_lists.add_below.Given as goal

abbrev pub invariant-loop-index : goal.invariant-loop-index
invariant-loop-index l =
    l.found.items ≡ l.initial.found.items
    ++ items_below l.cut (take l.index l.items) (take l.index l.places)
