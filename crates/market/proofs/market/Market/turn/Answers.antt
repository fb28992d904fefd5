use Rattle.std.proofs.Common.{ℕ, ◌∙◌, ap, List, [], length, arith}
use Rattle.std.specs.Prelude.{slice_index}
use Rattle.std.proofs.lemmas.List.{get_or_read}
use Rattle.market.specs.Problems.{Problem, turn_of}
use Rattle.market.proofs.market.Market.turn.Goals as goal

pub returns : goal.returns
unfolding turn_of
returns c =
    let s = c.self.inside in
    let kinds = ap (λ (m : Problem). m.types) c.self.view_is in
    let candidates = ap (λ (m : Problem). length m.lists) c.self.view_is in
    let n = c.self.invariant.turns.count in
    let table =
    get_or_read s.turns.items c.args.kind c.index-turns.result.now (omega arith)
    c.index-turns.ensures [] in
    ap (λ (xs : List ℕ). slice_index xs c.args.candidate) (c.items.ensures ∙ table)
    ∙ (c.self.invariant.turns.each c.args.kind (omega arith)).each c.args.candidate (omega arith)
    ∙ ap (λ (m : Problem). turn_of m c.args.kind c.args.candidate) c.self.view_is
