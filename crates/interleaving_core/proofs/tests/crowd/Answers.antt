use Rattle.std.proofs.Common.{[], ◌∷◌, refl}
use Rattle.market.specs.Dictatorships.{Dictatorship, IsValidDictatorship}
use Rattle.market.proofs.Computes.{computes}
use Rattle.market.proofs.Checks.{dictatorship_fits, turn_lists_fit, dictatorship_valid_from, dictatorship_parts_valid, three_items}
use Rattle.interleaving_core.proofs.tests.crowd.Goals as goal

abbrev crowd : Dictatorship
crowd = record {
  quota = 2 ∷ 1 ∷ [];
  fill = 1 ∷ 0 ∷ [];
  lists = (0 ∷ 1 ∷ []) ∷ (0 ∷ 1 ∷ []) ∷ (0 ∷ 1 ∷ []) ∷ [];
}

valid : IsValidDictatorship crowd
unfolding computes dictatorship_fits turn_lists_fit
valid = dictatorship_valid_from crowd refl refl

pub from_parts-requires : goal.from_parts-requires
from_parts-requires c =
    dictatorship_parts_valid crowd c.in_ok-quota.quota.items c.in_ok-fill.fill.items
    c.in_ok-lists.lists.items valid
    c.in_ok-quota.ensures.items c.in_ok-fill.ensures.items
    (three_items _ _ _ _ _ _ c.in_ok-lists.lists.items c.in_ok-lists.ensures.items
    c.in_ok-first.ensures c.in_ok-second.ensures c.in_ok-third.ensures)
