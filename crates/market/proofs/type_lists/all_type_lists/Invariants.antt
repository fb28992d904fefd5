use Rattle.std.proofs.Common.{◌≡◌, ℕ, ◌<◌, length}
use Rattle.market.specs.TypeLists.{IsTypeLists, type_lists_at}
use Rattle.market.proofs.type_lists.all_type_lists.Given as goal

abbrev pub invariant-loop-kind : goal.invariant-loop-kind
invariant-loop-kind l = record {
  count : length l.found.items ≡ l.kind;
  each : (t : ℕ) → t < l.kind → IsTypeLists l.parts t (type_lists_at l.found.items t);
}
