use Rattle.std.specs.Io.KnownBytes.{Keeps}
use Rattle.place_edges.proofs.real.flush_once.Given as goal

-- nothing changed so far
abbrev pub invariant-loop : goal.invariant-loop
invariant-loop g l = Keeps (g.W.Write.contents l.fn.writer) (g.W.Write.contents l.writer)
