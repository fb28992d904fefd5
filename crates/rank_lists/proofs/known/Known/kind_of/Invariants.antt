use Rattle.std.proofs.Common.{◌≢◌, ℕ, ◌<◌}
use Rattle.std.specs.Prelude.{slice_index}
use Rattle.rank_lists.proofs.known.Known.kind_of.Given as goal

-- none of the names so far has the number
abbrev pub invariant-loop-kind : goal.invariant-loop-kind
invariant-loop-kind g l = (k : ℕ) → k < l.kind → slice_index l.self.names.items k ≢ l.number
