use Rattle.std.proofs.Common.{◌*◌, ◌≤◌, take, map, length}
use Rattle.market.specs.declared.limits.TheConstants.{MAX_ENTRIES}
use Rattle.market.specs.LocalNumbers.{local_list}
use Rattle.market.specs.FlatLists.{IsFlat}
use Rattle.market.proofs.market.Market.turn_lists.Given as goal

abbrev pub invariant-loop-index : goal.invariant-loop-index
invariant-loop-index l = record {
  flat : IsFlat l.items.items l.bounds.items
      (map (local_list l.self l.cuts l.fn.kind) (take l.index l.rest));
  few : length l.items.items ≤ MAX_ENTRIES * l.index;
}
