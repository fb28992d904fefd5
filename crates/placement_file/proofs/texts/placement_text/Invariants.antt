use Rattle.std.proofs.Common.{◌≡◌}
use Rattle.placement_file.proofs.PlacementTexts.{text_to}
use Rattle.placement_file.proofs.texts.placement_text.Given as goal

-- the header and the rows of the candidates before this one were written
abbrev pub invariant-loop-index : goal.invariant-loop-index
invariant-loop-index g l =
    l.bytes.items ≡ text_to (g.P.Finder.numbers l.programmes) (g.C.Finder.numbers l.candidates)
    l.held l.index
