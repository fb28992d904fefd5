use Rattle.std.proofs.Common.{ℕ, Bool, not, sym, ap, ◌∙◌, arith}
use Rattle.market.specs.Counting.{count_below}
use Rattle.market.specs.Stability.{held_by}
use Rattle.market.proofs.Counts.{suc_count}
use Rattle.market.proofs.Members.{count_le}
use Rattle.market.proofs.Turns.{one_more, no_more}
use Rattle.quota_sweep.specs.Sweeps.{is_same, changed_count}
use Rattle.quota_sweep.proofs.changes.changed_between.Goals as goal
use Rattle.quota_sweep.proofs.changes.changed_between.Goals.{then-not-is_same, else-not-is_same}

pub overflow_add-count : goal.overflow_add-count
overflow_add-count c =
    let before = c.args.before.now in
    let now = c.args.now.now in
    let most = count_le (λ i. not (is_same (held_by before i) (held_by now i)))
    c.loop-candidate.candidate in
    let count = c.loop-candidate.invariant in
    let few = c.requires.few in
    omega arith

pub loop-candidate-preserved : goal.loop-candidate-preserved
loop-candidate-preserved c =
    let before = c.args.before.now in
    let now = c.args.now.now in
    let i = c.loop-candidate.candidate in
    let differs = λ (j : ℕ). not (is_same (held_by before j) (held_by now j)) in
    let count = c.loop-candidate.invariant in
    let next = suc_count differs i in
    elim c.if-not-is_same.branch [
      | then-not-is_same w ↦
          let one = one_more (differs i)
          (ap (λ (b : Bool). not b) (sym c.is_same.ensures ∙ w.if-not-is_same.true)) in
          let is = w.count-is in
          omega arith
      | else-not-is_same w ↦
          let none = no_more (differs i)
          (ap (λ (b : Bool). not b) (sym c.is_same.ensures ∙ w.if-not-is_same.false)) in
          let is = w.count-is in
          omega arith
    ]

pub returns : goal.returns
unfolding changed_count
returns c =
    let before = c.args.before.now in
    let now = c.args.now.now in
    c.loop-candidate.invariant
    ∙ ap (count_below (λ i. not (is_same (held_by before i) (held_by now i)))) (omega arith)
