use Rattle.std.proofs.Common.{◌≡◌, ℕ, ◌<◌, ◌≤◌, length, Option}
use Rattle.std.specs.Prelude.{slice_index_or}
use Rattle.std.specs.Option.{IfSome}
use Rattle.market.specs.TypeLists.{FlatTypeLists, IsTypeLists, type_lists_at}
use Rattle.market.proofs.type_lists_by.type_lists_by.Given as goal

abbrev pub invariant-loop-kind : goal.invariant-loop-kind
invariant-loop-kind g l = record {
  made : length l.made.items ≡ l.types;
  count : length l.found.items ≡ l.kind;
  each : (t : ℕ) → t < l.kind → IsTypeLists l.parts t (type_lists_at l.found.items t);
  left : (t : ℕ) (d : Option FlatTypeLists) → l.kind ≤ t → t < l.types
      → IfSome (slice_index_or l.made.items t d) (IsTypeLists l.parts t);
}
