use Rattle.std.proofs.Common.{List, length}
use Rattle.std.specs.Vec.Iter.{into_iter_items}
use Rattle.rank_lists.specs.Clean.{AreEachRead}
use Rattle.rank_lists.specs.declared.part_ranks.PartRanks.{PartRanks}
use Rattle.rank_lists.proofs.Collecting.{CollectsTo}
use Rattle.rank_lists.proofs.clean.collected.Given as goal

-- the types so far
abbrev pub invariant-types : goal.invariant-types
invariant-types l = (parts : List PartRanks)
    → AreEachRead (length (into_iter_items l.initial.left)) parts (into_iter_items l.initial.left)
    → CollectsTo parts (into_iter_items l.initial.left) l.orders.items l.ranks.items
    (into_iter_items l.left)

abbrev pub decreases-types : goal.decreases-types
decreases-types l = length (into_iter_items l.left)
