use Rattle.rank_lists.specs.Turns.{AreAllTurns}
use Rattle.rank_lists.proofs.turns.all_turns.Given as goal

-- the types so far
abbrev pub invariant-loop-of_type : goal.invariant-loop-of_type
invariant-loop-of_type g l =
    AreAllTurns (g.C.Finder.numbers l.candidates) l.yielded l.orders.items l.ranks.items
