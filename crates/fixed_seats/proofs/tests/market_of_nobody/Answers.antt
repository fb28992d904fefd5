use Rattle.std.proofs.Common.{[], ◌∷◌, List, ℕ, ap, ◌∙◌, refl}
use Rattle.market.specs.Examples.{prog}
use Rattle.market.specs.Problems.{Problem, IsValid, problem}
use Rattle.market.proofs.Checks.{counts_fit, programmes_fit, lists_fit, orders_fit, ranks_fit, parts_valid, valid_from}
use Rattle.market.proofs.Computes.{computes}
use Rattle.fixed_seats.proofs.tests.market_of_nobody.Goals as goal

abbrev nobody : Problem
nobody = problem 1 (prog 0 3 ∷ []) [] ([] ∷ []) ([] ∷ [])

nobody_valid : IsValid nobody
unfolding computes counts_fit programmes_fit lists_fit orders_fit ranks_fit
nobody_valid = valid_from nobody refl refl refl refl refl

pub build-requires : goal.build-requires
build-requires c =
    parts_valid nobody c.in_ok-programmes.programmes.items c.new-3.result.items
    c.in_ok-orders.orders.items c.in_ok-ranks.ranks.items nobody_valid
    c.in_ok-programmes.ensures.items c.new-3.ensures.items
    (c.in_ok-orders.ensures.items ∙ ap (λ (xs : List ℕ). xs ∷ [])
    (c.from_vec.ensures ∙ c.new.ensures.items))
    (c.in_ok-ranks.ensures.items ∙ ap (λ (xs : List ℕ). xs ∷ [])
    (c.from_vec-2.ensures ∙ c.new-2.ensures.items))
