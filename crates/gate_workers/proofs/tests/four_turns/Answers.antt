use Rattle.std.proofs.Common.{[], ◌∷◌, refl}
use Rattle.market.specs.Dictatorships.{Dictatorship, IsValidDictatorship}
use Rattle.market.proofs.Checks.{dictatorship_fits, turn_lists_fit, dictatorship_valid_from, dictatorship_parts_valid}
use Rattle.market.proofs.Computes.{computes}
use Rattle.gate_workers.proofs.tests.four_turns.Goals as goal

abbrev four : Dictatorship
four = record {
  quota = 2 ∷ 1 ∷ [];
  fill = 0 ∷ 0 ∷ [];
  lists = (0 ∷ []) ∷ (1 ∷ []) ∷ (0 ∷ []) ∷ (1 ∷ []) ∷ [];
}

four-valid : IsValidDictatorship four
unfolding computes dictatorship_fits turn_lists_fit
four-valid = dictatorship_valid_from four refl refl

pub from_parts-requires : goal.from_parts-requires
from_parts-requires c =
    dictatorship_parts_valid four c.in_ok-quota.quota.items c.in_ok-fill.fill.items
    c.in_ok-lists.lists.items four-valid
    c.in_ok-quota.ensures.items c.in_ok-fill.ensures.items c.in_ok-lists.ensures
