-- Three candidates for two seats: all is computed.
use Rattle.std.proofs.Common.{◌≡◌, true, false, [], ◌∷◌, Some, None, List, ℕ, refl, ◌∙◌}
use Rattle.market.specs.Mechanism.{mechanism_placement}
use Rattle.market.specs.Problems.{IsValid}
use Rattle.market.proofs.Checks.{counts_fit, programmes_fit, lists_fit, orders_fit, ranks_fit, valid_from}
use Rattle.market.proofs.Computes.{computes}
use Rattle.second_placement.specs.Examples.{given_second, three_for_two}
use Rattle.second_placement.specs.SeatsLeft.{lists_left, programmes_left, registered_count, second_problem}

pub valid : IsValid three_for_two
unfolding computes counts_fit programmes_fit lists_fit orders_fit ranks_fit
valid = valid_from three_for_two refl refl refl refl refl

pub first : mechanism_placement three_for_two ≡ Some 0 ∷ Some 1 ∷ None ∷ []
unfolding computes
first = refl

pub one : given_second three_for_two (true ∷ false ∷ false ∷ []) ≡ None ∷ None ∷ Some 1 ∷ []
unfolding computes given_second second_problem programmes_left lists_left registered_count
one = refl

pub both : given_second three_for_two (true ∷ true ∷ false ∷ []) ≡ None ∷ None ∷ None ∷ []
unfolding computes given_second second_problem programmes_left lists_left registered_count
both = refl

pub nobody : given_second three_for_two (false ∷ false ∷ false ∷ []) ≡ None ∷ None ∷ Some 1 ∷ []
unfolding computes given_second second_problem programmes_left lists_left registered_count
nobody = refl

-- three lists that are equal each
pub three_lists : (a b c x y z : List ℕ) (all : List (List ℕ)) → all ≡ a ∷ b ∷ c ∷ [] → a ≡ x
    → b ≡ y → c ≡ z → all ≡ x ∷ y ∷ z ∷ []
three_lists a b c x y z all is p q r = is ∙ (λ i. p i ∷ q i ∷ r i ∷ [])
