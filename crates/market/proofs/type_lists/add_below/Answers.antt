use Rattle.std.proofs.Common.{ℕ, ◌∙◌, ap, Vec, Global, arith}
use Rattle.market.proofs.Below.{below_more, below_same}
use Rattle.market.proofs.type_lists.add_below.Goals as goal
use Rattle.market.proofs.type_lists.add_below.Goals.{then-from-cut+in_ok-push, else-from-cut}

pub loop-index-preserved : goal.loop-index-preserved
loop-index-preserved c =
    let k = c.loop-index.index in
    let xs = c.args.items.now in
    let ps = c.args.places.now in
    elim c.if-from-cut.branch [
      | then-from-cut+in_ok-push w ↦ below_more c.args.cut k xs ps c.args.found.now.items
          c.loop-index.found.items _ c.loop-index-test.true c.requires
          (omega (arith, w.if-from-cut.true)) c.loop-index.invariant
          (ap (λ (v : Vec ℕ Global). v.items) w.found-is ∙ w.in_ok-push.ensures.items)
      | else-from-cut w ↦ ap (λ (v : Vec ℕ Global). v.items) w.found-is
          ∙ below_same c.args.cut k xs ps c.args.found.now.items c.loop-index.found.items
          c.loop-index-test.true c.requires (omega (arith, w.if-from-cut.false))
          c.loop-index.invariant
    ]
