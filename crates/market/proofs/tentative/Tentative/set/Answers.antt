use Rattle.std.proofs.Common.{◌≡◌, ℕ, ◌<◌, ◌∙◌, ap, sym, length, List, [], Option, map, set, get_or, arith}
use Rattle.std.proofs.lemmas.List.{get_or_read, map-set, length-map}
use Rattle.std.proofs.Math.ListN.{get_or-map as get_or-map_past}
use Rattle.market.specs.Choices.{decode}
use Rattle.market.proofs.tentative.Tentative.set.Goals as goal

pub returns : goal.returns
returns c =
    let rows = c.self.inside.rows.items in
    let kind = c.args.kind in
    let at = c.args.candidate in
    let n = ap (λ (xs : List (List (Option ℕ))). length xs) c.self.view_is in
    let k = length-map rows (map decode) in
    let lt : kind < length rows = omega (arith, c.requires.kind) in
    let row = get_or_read rows kind c.index_mut-row.result.now lt c.index_mut-row.ensures.value []
    in
    let new : map decode c.write.new.self
    ≡ set (get_or (map (map decode) rows) kind []) at c.args.choice
    = ap (map decode) c.write.ensures
    ∙ map-set decode c.index_mut-row.result.now at c.encoded.result
    ∙ ap (set (map decode c.index_mut-row.result.now) at) c.encoded.ensures
    ∙ ap (λ (xs : List (Option ℕ)). set xs at c.args.choice)
    (ap (map decode) row ∙ sym (get_or-map_past (map decode) rows kind [])) in
    map-set (map decode) rows kind c.write.new.self
    ∙ ap (set (map (map decode) rows) kind) new
    ∙ ap (λ (xs : List (List (Option ℕ))). set xs kind (set (get_or xs kind []) at c.args.choice))
    c.self.view_is
