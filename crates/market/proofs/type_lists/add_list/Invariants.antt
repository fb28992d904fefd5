use Rattle.std.proofs.Common.{◌≡◌, ◌++◌, take, map}
use Rattle.std.specs.Prelude.{filter}
use Rattle.market.specs.Mechanism.{is_offered}
use Rattle.market.specs.LocalNumbers.{local_of}
use Rattle.market.specs.TypeLists.{places_from}
use Rattle.market.proofs.type_lists.add_list.Given as goal

abbrev pub invariant-loop-place : goal.invariant-loop-place
invariant-loop-place l = record {
  items : l.items.items ≡ l.initial.items.items
      ++ map (local_of l.parts)
      (filter (is_offered l.parts l.kind l.candidate) (take l.place l.list));
  places : l.places.items ≡ l.initial.places.items
      ++ places_from (is_offered l.parts l.kind l.candidate) 0 (take l.place l.list);
}
