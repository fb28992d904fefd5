-- The chain of five: all is computed.
use Rattle.std.proofs.Common.{◌≡◌, ℕ, List, [], ◌∷◌, Some, None, refl, ◌∙◌}
use Rattle.market.specs.BaseRanks.{base_rank}
use Rattle.market.specs.Problems.{IsValid, with_quota}
use Rattle.market.proofs.Checks.{counts_fit, programmes_fit, lists_fit, orders_fit, ranks_fit, valid_from}
use Rattle.market.proofs.Computes.{computes}
use Rattle.quota_sweep.specs.declared.row.SweepRow.{SweepRow}
use Rattle.quota_sweep.specs.Examples.{chain}
use Rattle.quota_sweep.specs.Sweeps.{changed_count, placed_with, sweep_row, sweep_rows}

pub chain_valid : IsValid chain
unfolding computes counts_fit programmes_fit lists_fit orders_fit ranks_fit
chain_valid = valid_from chain refl refl refl refl refl

-- the rows of no seat and of one in the first programme
abbrev pub no_seat_and_one : List SweepRow
no_seat_and_one =
    record { quota = 0; held = 0; base = None; changed = 0 }
    ∷ record { quota = 1; held = 1; base = Some 1; changed = 5 } ∷ []

pub chain_swept : sweep_rows chain 0 0 1 ≡ no_seat_and_one
unfolding computes with_quota base_rank changed_count placed_with sweep_row sweep_rows
chain_swept = refl

-- five lists that are equal each
pub five_lists : (a b c d e v w x y z : List ℕ) (all : List (List ℕ))
    → all ≡ a ∷ b ∷ c ∷ d ∷ e ∷ [] → a ≡ v → b ≡ w → c ≡ x → d ≡ y → e ≡ z
    → all ≡ v ∷ w ∷ x ∷ y ∷ z ∷ []
five_lists a b c d e v w x y z all is p q r s t =
    is ∙ (λ i. p i ∷ q i ∷ r i ∷ s i ∷ t i ∷ [])
