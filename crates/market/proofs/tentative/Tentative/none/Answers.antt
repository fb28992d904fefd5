use Rattle.std.proofs.Common.{ℕ, ◌∙◌, ap, Option, None, map, replicate}
use Rattle.market.specs.Choices.{empty_table, decode}
use Rattle.market.proofs.Coded.{map-replicate}
use Rattle.market.proofs.tentative.Tentative.none.Goals as goal

pub returns-clause-none : goal.returns-clause-none
unfolding empty_table
returns-clause-none c =
    let types = c.type_count.result in
    let count = c.candidate_count.result in
    ap (map (map decode)) c.in_ok-rows.ensures
    ∙ map-replicate (map decode) types (replicate count 0)
    ∙ ap (replicate types) (map-replicate decode count 0)
    ∙ ap (λ (n : ℕ). replicate n (replicate {A = Option ℕ} count None)) c.type_count.ensures.count
    ∙ ap (λ (n : ℕ). replicate c.args.market.now.types (replicate {A = Option ℕ} n None))
    c.candidate_count.ensures.count
