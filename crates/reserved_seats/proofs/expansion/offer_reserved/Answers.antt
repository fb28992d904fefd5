use Rattle.std.proofs.Common.{◌+◌, true, [], refl, sym, ap, ◌∙◌, subst, arith}
use Rattle.std.proofs.lemmas.List.{get_or_default}
use Rattle.reserved_seats.specs.Expansion.{offered_list}
use Rattle.reserved_seats.proofs.Marking.{AreOffered, AreOffered-all, AreOffered-marked, AreOffered-unmarked}
use Rattle.reserved_seats.proofs.expansion.offer_reserved.Goals as goal
use Rattle.reserved_seats.proofs.expansion.offer_reserved.Goals.{then-is_marked+in_ok-offered, else-is_marked}

pub loop-candidate-init : goal.loop-candidate-init
loop-candidate-init c = record { done = λ i below. absurd (omega arith); rest = λ i above. refl }

pub loop-candidate-preserved : goal.loop-candidate-preserved
loop-candidate-preserved c =
    let rows = c.args.rows in
    let old = c.args.lists.now in
    let marked = c.args.marked.now in
    let k = c.loop-candidate.candidate in
    let lists = c.loop-candidate.lists in
    let size = c.requires.candidates in
    let same = c.loop-candidate.auto.lists in
    elim c.if-is_marked.branch [
      | then-is_marked+in_ok-offered w ↦
          subst (AreOffered rows marked old (k + 1)) (sym w.lists-is)
          (AreOffered-marked rows marked old k lists c.loop-candidate.invariant
          w.in_ok-offered.offered (omega arith) w.if-is_marked.true
          (w.in_ok-offered.ensures
          ∙ ap (offered_list rows true) (w.items.ensures
          ∙ get_or_default lists k w.index-lists-candidate.result [] (omega arith))))
      | else-is_marked w ↦
          subst (AreOffered rows marked old (k + 1)) (sym w.lists-is)
          (AreOffered-unmarked rows marked old k lists c.loop-candidate.invariant
          w.if-is_marked.false)
    ]

pub returns : goal.returns
returns c =
    let size = c.requires.candidates in
    AreOffered-all c.args.rows c.args.marked.now c.args.lists.now c.loop-candidate.candidate
    c.loop-candidate.lists c.loop-candidate.invariant (omega arith) c.loop-candidate.auto.lists
