use Rattle.std.proofs.Common.{◌≡◌, ◌∙◌, ap, false, length, replicate, rules}
use Rattle.std.proofs.lemmas.List.{length-replicate}
use Rattle.market.proofs.Replays.{empty_table-count}
use Rattle.round_rerun.proofs.Keeping.{kept-none}
use Rattle.round_rerun.proofs.kept.Kept.none.Goals as goal

pub returns-clause-kept : goal.returns-clause-kept
returns-clause-kept c =
    let m = c.args.market.now in
    let marks : c.in_ok-changed.changed.items ≡ replicate c.candidate_count.result false
    = search rules in
    kept-none m c.in_ok-table.ensures.valid _ c.in_ok-table.ensures.none
    (empty_table-count m c.in_ok-table.table c.in_ok-table.ensures.none)
    c.in_ok-chosen.ensures.types c.in_ok-chosen.ensures.each
    (ap (λ xs. length xs) marks ∙ length-replicate c.candidate_count.result false
    ∙ c.candidate_count.ensures.count)
