use Rattle.rank_lists.specs.Clean.{AreEachRead}
use Rattle.rank_lists.proofs.clean.turns_in_order.Given as goal

-- the types so far
abbrev pub invariant-loop-kind : goal.invariant-loop-kind
invariant-loop-kind l = AreEachRead l.kind l.parts l.turns.items
