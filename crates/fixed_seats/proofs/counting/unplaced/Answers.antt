use Rattle.std.proofs.Common.{ℕ, Bool, not, ap, ◌∙◌, Vec, Global, arith}
use Rattle.std.specs.Prelude.{filter, is_none}
use Rattle.std.specs.List.{range_with_len}
use Rattle.market.specs.Stability.{held_by}
use Rattle.market.proofs.Members.{kept_more, dropped_more}
use Rattle.fixed_seats.specs.Reports.{unplaced_in}
use Rattle.fixed_seats.proofs.counting.unplaced.Goals as goal
use Rattle.fixed_seats.proofs.counting.unplaced.Goals.{then-is_none+in_ok-push, else-is_none}

pub loop-candidate-preserved : goal.loop-candidate-preserved
loop-candidate-preserved c =
    let held = c.args.held.now in
    let k = c.loop-candidate.candidate in
    let f = λ (i : ℕ). is_none (held_by held i) in
    let found = c.loop-candidate.found.items in
    elim c.if-is_none.branch [
      | then-is_none+in_ok-push w ↦ kept_more f k found _ c.loop-candidate.invariant
          (ap (λ (b : Bool). not b) w.if-is_none.ensures)
          (ap (λ (v : Vec ℕ Global). v.items) w.found-is ∙ w.in_ok-push.ensures.items)
      | else-is_none w ↦ ap (λ (v : Vec ℕ Global). v.items) w.found-is
          ∙ dropped_more f k found c.loop-candidate.invariant
          (ap (λ (b : Bool). not b) w.if-is_none.ensures)
    ]

pub returns : goal.returns
unfolding unplaced_in
returns c =
    let held = c.args.held.now in
    c.loop-candidate.invariant
    ∙ ap (λ (n : ℕ). filter (λ i. is_none (held_by held i)) (range_with_len 0 n)) (omega arith)
