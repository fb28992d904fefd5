use Rattle.std.proofs.Common.{ℕ, ◌+◌, ◌<◌, ◌∙◌, ap, sym, subst, length, List, arith, set}
use Rattle.market.specs.Mechanism.{has_several_in}
use Rattle.market.specs.Choices.{held_in_table}
use Rattle.market.proofs.Members.{count_le}
use Rattle.market.proofs.Cutting.{IsCutUpto, IsCutUpto-none, IsCutUpto-cut, IsCutUpto-keep, IsCutUpto-all, best-within}
use Rattle.market.proofs.Replays.{round-table, round-within, round-cuts, round-count}
use Rattle.dictatorship.proofs.cutting.cut_round.Goals as goal
use Rattle.dictatorship.proofs.cutting.cut_round.Goals.{then-has_several, else-has_several}

pub loop-candidate-init : goal.loop-candidate-init
loop-candidate-init c =
    IsCutUpto-none c.args.market.now (held_in_table c.args.table.now) c.args.cuts.now
    c.requires.cuts.candidates

pub has_several-requires-clause-table : goal.has_several-requires-clause-table
has_several-requires-clause-table c =
    round-table c.args.market.now c.args.cuts.now c.args.table.now c.requires.round

pub best_place-requires-clause-table : goal.best_place-requires-clause-table
best_place-requires-clause-table c =
    round-table c.args.market.now c.args.cuts.now c.args.table.now c.requires.round

pub set-requires-clause-shorter : goal.set-requires-clause-shorter
set-requires-clause-shorter c =
    let m = c.args.market.now in
    let table = c.args.table.now in
    let k = c.loop-candidate.candidate in
    let n = c.candidate_count-candidate-end.ensures.count in
    let w = best-within m table c.args.cuts.now k c.requires.cuts
    (round-within m c.args.cuts.now table c.requires.round) (omega arith)
    (sym c.has_several.ensures ∙ c.if-has_several.true) in
    let o = c.loop-candidate.invariant.open' k (omega arith) in
    let e = c.best_place.ensures.place in
    omega arith

pub overflow_add-count : goal.overflow_add-count
overflow_add-count c =
    let n = c.candidate_count-candidate-end.ensures.count in
    let v = c.candidate_count-candidate-end.ensures.valid.candidates in
    let e = c.loop-candidate.invariant.counted in
    let h = count_le (has_several_in c.args.market.now (held_in_table c.args.table.now))
    c.loop-candidate.candidate in
    omega arith

pub loop-candidate-preserved : goal.loop-candidate-preserved
loop-candidate-preserved c =
    let m = c.args.market.now in
    let ch = held_in_table c.args.table.now in
    let old = c.args.cuts.now in
    let k = c.loop-candidate.candidate in
    let n = c.candidate_count-candidate-end.ensures.count in
    let lk : k < length m.lists = omega arith in
    let inv = c.loop-candidate.invariant in
    elim c.if-has_several.branch [
      | then-has_several w ↦
          subst (λ (xs : List ℕ). IsCutUpto m ch old (k + 1) xs c.if-has_several.count)
          (sym (w.cuts-is ∙ w.set.ensures))
          (subst (IsCutUpto m ch old (k + 1)
          (set c.loop-candidate.cuts k (w.best_place.result + 1))) (sym w.count-is)
          (IsCutUpto-cut m ch old c.loop-candidate.cuts k c.loop-candidate.count
          (w.best_place.result + 1) lk (sym c.has_several.ensures ∙ w.if-has_several.true)
          (ap (λ (x : ℕ). x + 1) w.best_place.ensures.place) inv))
      | else-has_several w ↦
          subst (λ (xs : List ℕ). IsCutUpto m ch old (k + 1) xs c.if-has_several.count)
          (sym w.cuts-is)
          (subst (IsCutUpto m ch old (k + 1) c.loop-candidate.cuts) (sym w.count-is)
          (IsCutUpto-keep m ch old c.loop-candidate.cuts k c.loop-candidate.count
          (sym c.has_several.ensures ∙ w.if-has_several.false) inv))
    ]

pub returns : goal.returns
returns c =
    let m = c.args.market.now in
    let n = c.candidate_count-candidate-end.ensures.count in
    let all = IsCutUpto-all m (held_in_table c.args.table.now) c.args.cuts.now c.loop-candidate.cuts
    c.loop-candidate.candidate c.loop-candidate.count (omega arith) c.loop-candidate.invariant in
    record {
      cuts = all.0 ∙ round-cuts m c.candidate_count-candidate-end.ensures.valid c.args.cuts.now
          c.args.table.now c.requires.round;
      count = all.1 ∙ round-count m c.args.cuts.now c.args.table.now c.requires.round;
    }
