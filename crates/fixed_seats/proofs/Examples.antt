-- The market with three stable placements: all is computed.
use Rattle.std.proofs.Common.{◌≡◌, [], ◌∷◌, refl}
use Rattle.market.specs.Mechanism.{mechanism_placement}
use Rattle.market.specs.Problems.{IsValid}
use Rattle.market.specs.Stability.{IsStable}
use Rattle.market.proofs.Checks.{counts_fit, programmes_fit, lists_fit, orders_fit, ranks_fit, valid_from}
use Rattle.market.proofs.Computes.{computes}
use Rattle.fixed_seats.specs.Examples.{three_stable, three_hold}
use Rattle.fixed_seats.specs.Reports.{holder_counts, seats_in, unplaced_in}
use Rattle.fixed_seats.proofs.Checks.{is_fitting, is_unblocked, stable_from}

pub three_valid : IsValid three_stable
unfolding computes counts_fit programmes_fit lists_fit orders_fit ranks_fit
three_valid = valid_from three_stable refl refl refl refl refl

pub first_wishes : IsStable three_stable (three_hold 0 1 2)
unfolding computes is_fitting is_unblocked
first_wishes = stable_from three_stable three_valid (three_hold 0 1 2) refl refl

pub second_wishes : IsStable three_stable (three_hold 1 2 0)
unfolding computes is_fitting is_unblocked
second_wishes = stable_from three_stable three_valid (three_hold 1 2 0) refl refl

pub last_wishes : IsStable three_stable (three_hold 2 0 1)
unfolding computes is_fitting is_unblocked
last_wishes = stable_from three_stable three_valid (three_hold 2 0 1) refl refl

pub three_placed : mechanism_placement three_stable ≡ three_hold 2 0 1
unfolding computes
three_placed = refl

pub three_shared : seats_in three_stable (three_hold 2 0 1)
    ≡ record { unplaced = 3 ∷ 4 ∷ []; held = 1 ∷ 1 ∷ 1 ∷ 1 ∷ [] }
unfolding computes unplaced_in holder_counts
three_shared = refl
