use Rattle.std.proofs.Common.{◌≡◌, drop}
use Rattle.place_edges.specs.HeldFiles.{files_of}
use Rattle.place_edges.proofs.held.find_entry.Given as goal

-- no entry so far has the name
abbrev pub invariant-loop-index : goal.invariant-loop-index
invariant-loop-index l = files_of l.entries l.name ≡ files_of (drop l.index l.entries) l.name
