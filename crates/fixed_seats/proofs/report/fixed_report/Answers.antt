use Rattle.std.proofs.Common.{◌<◌, ℕ, List, Option, map, sym, ap, ◌∙◌, subst}
use Rattle.std.specs.List.{range_with_len}
use Rattle.market.specs.Counting.{count_of}
use Rattle.market.specs.Mechanism.{mechanism_placement}
use Rattle.market.specs.Stability.{held_by}
use Rattle.fixed_seats.specs.Reports.{IsOfEveryStable, holder_counts, unplaced_in}
use Rattle.fixed_seats.proofs.Shared.{programme_lt}
use Rattle.fixed_seats.proofs.Reports.{of_every_stable}
use Rattle.fixed_seats.proofs.report.fixed_report.Goals as goal

pub holders-requires-clause-programmes : goal.holders-requires-clause-programmes
holders-requires-clause-programmes c =
    let m = c.args.market.now in
    let valid = c.type_count-programmes.ensures.valid in
    let same = c.held-2.ensures ∙ c.requires in
    λ i p holds.
    subst (λ (n : ℕ). p < n) (sym c.programme_count-programmes.ensures)
    (programme_lt m valid (mechanism_placement m) c.worst_stable.ensures.stable i p
    (ap (λ (xs : List (Option ℕ)). held_by xs i) (sym same) ∙ holds))

pub returns : goal.returns
unfolding holder_counts
returns c =
    let m = c.args.market.now in
    let valid = c.type_count-programmes.ensures.valid in
    let unplaced = c.in_ok-unplaced.ensures ∙ ap unplaced_in (c.held.ensures ∙ c.requires) in
    let held = c.in_ok-held.ensures
    ∙ ap (λ (n : ℕ). map (λ p. count_of p c.held-2.result.now) (range_with_len 0 n))
    c.programme_count-programmes.ensures
    ∙ ap (holder_counts m) (c.held-2.ensures ∙ c.requires) in
    subst (IsOfEveryStable m) (λ i. record { unplaced = (sym unplaced) i; held = (sym held) i })
    (of_every_stable m valid)
