use Rattle.std.proofs.Common.{refl, ◌∙◌}
use Rattle.placement_file.proofs.PlacementTexts.{text-more, text-all}
use Rattle.placement_file.proofs.texts.placement_text.Goals as goal

pub loop-index-preserved : goal.loop-index-preserved
loop-index-preserved g c =
    text-more (g.P.Finder.numbers c.args.programmes.now) (g.C.Finder.numbers c.args.candidates.now)
    c.args.held.now
    c.loop-index.index c.number_at-number.result _ c.loop-index.bytes.items _
    c.requires.candidates c.loop-index-test.true c.number_at-number.ensures refl
    c.loop-index.invariant c.in_ok-put_candidate.ensures

pub returns : goal.returns
returns g c =
    c.loop-index.invariant ∙ text-all (g.P.Finder.numbers c.args.programmes.now)
    (g.C.Finder.numbers c.args.candidates.now)
    c.args.held.now c.loop-index.index c.requires.candidates c.loop-index-test.false
