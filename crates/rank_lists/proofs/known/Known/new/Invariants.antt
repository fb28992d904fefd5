use Rattle.std.proofs.Common.{◌≡◌, All, IsTrue, map, take}
use Rattle.place_base.specs.TypeName.{is_type_name}
use Rattle.rank_lists.specs.Groups.{name_number}
use Rattle.rank_lists.proofs.known.Known.new.Given as goal

-- the names of the types so far
abbrev pub invariant-loop-kind : goal.invariant-loop-kind
invariant-loop-kind g l = record {
  names : l.names.items ≡ map name_number (take l.kind (g.T.TypeFinder.names l.types));
  are : All (λ name. IsTrue (is_type_name name)) (take l.kind (g.T.TypeFinder.names l.types));
}
