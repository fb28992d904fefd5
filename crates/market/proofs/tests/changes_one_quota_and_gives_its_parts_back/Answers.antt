use Rattle.std.proofs.Common.{◌<◌, length, sym, subst, arith, ◌∙◌, ap}
use Rattle.market.specs.Problems.{Problem, with_quota}
use Rattle.market.proofs.tests.changes_one_quota_and_gives_its_parts_back.Goals as goal

pub programme-requires : goal.programme-requires
unfolding with_quota
programme-requires g c =
    subst (λ (m : Problem). 1 < length m.programmes)
    (sym (c.set_quota.ensures ∙ ap (λ (m : Problem). with_quota m 1 5) c.in_ok-market.ensures))
    (omega arith)
