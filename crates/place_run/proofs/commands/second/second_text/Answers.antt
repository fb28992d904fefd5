use Rattle.std.proofs.Common.{ℕ, List, Option, length, sym, ap, ◌∙◌}
use Rattle.market.specs.Stability.{held_by}
use Rattle.place_run.proofs.Seconds.{second-candidates, second-programmes}
use Rattle.place_run.proofs.commands.second.second_text.Goals as goal

pub placement_text-requires-clause-candidates : goal.placement_text-requires-clause-candidates
placement_text-requires-clause-candidates g c =
    ap (λ (v : List (Option ℕ)). length v) (c.held-held.ensures ∙ c.in_ok-outcome.ensures.placement)
    ∙ second-candidates c.args.problem c.in_ok-second.second c.args.placement.now
    c.args.registered.now c.requires.named c.in_ok-second.ensures c.requires.valid

pub placement_text-requires-clause-programmes : goal.placement_text-requires-clause-programmes
placement_text-requires-clause-programmes g c = λ i p holds.
    second-programmes c.args.problem c.in_ok-second.second c.args.placement.now
    c.args.registered.now c.requires.named c.in_ok-second.ensures c.requires.valid i p
    (ap (λ (v : List (Option ℕ)). held_by v i)
    (sym (c.held-held.ensures ∙ c.in_ok-outcome.ensures.placement)) ∙ holds)
