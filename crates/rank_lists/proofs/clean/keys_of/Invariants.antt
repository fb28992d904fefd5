use Rattle.std.proofs.Common.{◌≡◌, take}
use Rattle.rank_lists.specs.Clean.{keys_in}
use Rattle.rank_lists.proofs.clean.keys_of.Given as goal

-- the ranks of the parts so far
abbrev pub invariant-loop-part : goal.invariant-loop-part
invariant-loop-part l = l.keys.items ≡ keys_in l.kind (take l.part-index l.parts)
