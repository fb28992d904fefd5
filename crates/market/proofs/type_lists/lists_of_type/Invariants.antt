use Rattle.std.proofs.Common.{◌*◌, ◌≤◌, length, take, map}
use Rattle.market.specs.declared.limits.TheConstants.{MAX_ENTRIES}
use Rattle.market.specs.FlatLists.{IsFlat}
use Rattle.market.specs.TypeLists.{type_items, type_places}
use Rattle.market.proofs.type_lists.lists_of_type.Given as goal

abbrev pub invariant-loop-turn : goal.invariant-loop-turn
invariant-loop-turn l = record {
  items : IsFlat l.items.items l.bounds.items
      (map (type_items l.parts l.fn.kind) (take l.turn l.order));
  places : IsFlat l.places.items l.bounds.items
      (map (type_places l.parts l.fn.kind) (take l.turn l.order));
  few : length l.items.items ≤ MAX_ENTRIES * l.turn;
}
