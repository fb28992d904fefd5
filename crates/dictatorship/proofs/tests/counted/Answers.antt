use Rattle.std.proofs.Common.{◌≡◌, ◌∙◌, ap, refl, arith}
use Rattle.market.specs.Problems.{Problem}
use Rattle.market.specs.Mechanism.{mechanism}
use Rattle.market.specs.Examples.{three_rounds}
use Rattle.market.proofs.Computes.{computes}
use Rattle.dictatorship.proofs.tests.counted.Goals as goal

-- all turns of both types, in three rounds
turns_of_three_rounds : (mechanism three_rounds).turns ≡ 18
unfolding computes
turns_of_three_rounds = refl

pub returns : goal.returns
returns g c =
    let counted = c.in_ok-outcome.ensures.turns in
    let start = c.new-turns.ensures in
    let own : c.in_ok-outcome.outcome.turns ≡ 18
    = c.in_ok-outcome.ensures.whole_rounds
    ∙ ap (λ (m : Problem). (mechanism m).turns) c.in_ok-market.ensures
    ∙ turns_of_three_rounds in
    omega arith
