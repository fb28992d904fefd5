use Rattle.std.proofs.Common.{ℕ, ◌∙◌, map, length, List, [], ap, arith}
use Rattle.std.proofs.lemmas.List.{take_all}
use Rattle.market.specs.Problems.{list_of}
use Rattle.market.specs.Mechanism.{whole_cuts}
use Rattle.market.proofs.Dicts.{map_next}
use Rattle.market.proofs.cuts.Cuts.whole.Goals as goal

pub overflow_cast-entries : goal.overflow_cast-entries
overflow_cast-entries c =
    let v = c.candidate_count-candidate-end.ensures.valid in
    let h = v.list_lengths c.loop-candidate.candidate (omega arith) in
    let e = ap (λ (xs : List ℕ). length xs) c.list-entries.ensures.list in
    omega arith

pub loop-candidate-preserved : goal.loop-candidate-preserved
unfolding list_of
loop-candidate-preserved c =
    let n = c.candidate_count-candidate-end.ensures.count in
    map_next (λ (list : List ℕ). length list) c.args.market.now.lists c.loop-candidate.candidate []
    (length c.list-entries.result.now) c.loop-candidate.lengths.items c.push.new.self.items
    (omega arith) c.loop-candidate.invariant
    (ap (λ (xs : List ℕ). length xs) c.list-entries.ensures.list) c.in_ok-push.ensures.items

pub returns-clause-cuts : goal.returns-clause-cuts
unfolding whole_cuts
returns-clause-cuts c =
    let n = c.candidate_count-candidate-end.ensures.count in
    c.loop-candidate.invariant
    ∙ ap (map (λ (list : List ℕ). length list))
    (take_all c.loop-candidate.candidate c.args.market.now.lists (omega arith))
