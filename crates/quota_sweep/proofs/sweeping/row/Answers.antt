use Rattle.std.proofs.Common.{◌<◌, ℕ, List, Option, length, sym, ap, ◌∙◌, subst}
use Rattle.market.specs.Problems.{place_of, list_of}
use Rattle.market.specs.Stability.{held_by}
use Rattle.market.proofs.Firsts.{place_get}
use Rattle.market.proofs.Valid.{candidate_lt}
use Rattle.quota_sweep.proofs.sweeping.row.Goals as goal

pub base_ranks-requires-clause-programmes : goal.base_ranks-requires-clause-programmes
base_ranks-requires-clause-programmes c i p holds =
    let m = c.args.market.now in
    let stable = c.mechanism_stable.ensures in
    let given = ap (λ (held : List (Option ℕ)). held_by held i) (sym c.requires.now) ∙ holds in
    let listed = (stable.placement.acceptable i p given).listed in
    let own = candidate_lt m i (place_of p (list_of m i)) listed in
    subst (λ (q : ℕ). q < length m.programmes) (place_get p (list_of m i) 0 listed)
    (c.candidate_count.ensures.valid.list_entries i (place_of p (list_of m i)) own listed)
