use Rattle.std.proofs.Common.{◌≡◌, take}
use Rattle.rank_lists.specs.Turns.{known_keys}
use Rattle.rank_lists.proofs.turns.known.Given as goal

-- the known candidates so far
abbrev pub invariant-loop-key : goal.invariant-loop-key
invariant-loop-key g l =
    l.known.items ≡ known_keys (g.C.Finder.numbers l.candidates) (take l.key-index l.keys)
