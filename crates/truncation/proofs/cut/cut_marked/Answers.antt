use Rattle.std.proofs.Common.{◌∙◌, ap, sym, length, None, arith, get_or}
use Rattle.truncation.specs.Touches.{Touches}
use Rattle.truncation.proofs.Cutting.{cutting-none, cutting-cut, cutting-keep, cutting-shorter, cutting-few, cutting-all}
use Rattle.truncation.proofs.cut.cut_marked.Goals as goal
use Rattle.truncation.proofs.cut.cut_marked.Goals.{then-takes_several, else-takes_several}

pub loop-candidate-init : goal.loop-candidate-init
loop-candidate-init c =
    cutting-none c.args.market.now c.args.tentative.now c.args.cuts.now c.none-touched.result
    c.requires.cuts c.none-touched.ensures.several c.none-touched.ensures.first

pub takes_several-requires-clause-other : goal.takes_several-requires-clause-other
takes_several-requires-clause-other c = λ e.
    let n = c.candidate_count-candidate-end.ensures.count in
    c.requires.others c.loop-candidate.candidate (omega arith) e

pub cut_after_best-requires-clause-cuts : goal.cut_after_best-requires-clause-cuts
cut_after_best-requires-clause-cuts c =
    let n = c.candidate_count-candidate-end.ensures.count in
    let fit = c.loop-candidate.invariant.cut.candidates in
    omega arith

pub cut_after_best-requires-clause-shorter : goal.cut_after_best-requires-clause-shorter
cut_after_best-requires-clause-shorter c =
    let n = c.candidate_count-candidate-end.ensures.count in
    cutting-shorter c.args.market.now c.args.tentative.now c.args.cuts.now
    c.loop-candidate.candidate c.loop-candidate.cuts c.loop-candidate.touched c.requires.cuts
    c.requires.within (omega arith) (sym c.takes_several.ensures ∙ c.if-takes_several.true)
    c.loop-candidate.invariant

pub cut_after_best-requires-clause-types : goal.cut_after_best-requires-clause-types
cut_after_best-requires-clause-types c = c.loop-candidate.invariant.types

pub cut_after_best-requires-clause-few : goal.cut_after_best-requires-clause-few
cut_after_best-requires-clause-few c =
    let n = c.candidate_count-candidate-end.ensures.count in
    cutting-few c.args.market.now c.candidate_count-candidate-end.ensures.valid
    c.args.tentative.now c.args.cuts.now c.loop-candidate.candidate c.loop-candidate.cuts
    c.loop-candidate.touched (omega arith) c.loop-candidate.invariant

pub loop-candidate-preserved : goal.loop-candidate-preserved
loop-candidate-preserved c =
    let m = c.args.market.now in
    let table = c.args.tentative.now in
    let old = c.args.cuts.now in
    let k = c.loop-candidate.candidate in
    let n = c.candidate_count-candidate-end.ensures.count in
    elim c.if-takes_several.branch [
      | then-takes_several w ↦
          let is = w.touched-is in
          cutting-cut m table old k c.loop-candidate.cuts c.if-takes_several.cuts
          c.loop-candidate.touched c.if-takes_several.touched c.requires.within (omega arith)
          (sym c.takes_several.ensures ∙ w.if-takes_several.true)
          (w.cuts-is ∙ w.cut_after_best.ensures.cuts)
          (ap (λ (x : Touches). x.several) is ∙ w.cut_after_best.ensures.several)
          (ap (λ (x : Touches). length x.first) is ∙ w.cut_after_best.ensures.types)
          (λ t l. ap (λ (x : Touches). get_or x.first t None) is ∙ w.cut_after_best.ensures.first t l)
          c.loop-candidate.invariant
      | else-takes_several w ↦
          cutting-keep m table old k c.loop-candidate.cuts c.if-takes_several.cuts
          c.loop-candidate.touched c.if-takes_several.touched c.requires.within
          (sym c.takes_several.ensures ∙ w.if-takes_several.false) w.cuts-is w.touched-is
          c.loop-candidate.invariant
    ]

pub returns : goal.returns
returns c =
    let n = c.candidate_count-candidate-end.ensures.count in
    let all = cutting-all c.args.market.now c.candidate_count-candidate-end.ensures.valid
    c.args.tentative.now c.args.cuts.now c.loop-candidate.candidate c.loop-candidate.cuts
    c.loop-candidate.touched (omega arith) c.loop-candidate.invariant in
    record { cuts = all.cuts'; several = all.several'; first = all.first' }
