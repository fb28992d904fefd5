use Rattle.std.proofs.Common.{[], ◌∷◌, refl}
use Rattle.market.specs.Dictatorships.{Dictatorship, IsValidDictatorship}
use Rattle.market.proofs.Computes.{computes}
use Rattle.market.proofs.Checks.{dictatorship_fits, turn_lists_fit, dictatorship_valid_from, dictatorship_parts_valid, three_items}
use Rattle.interleaving_core.proofs.tests.empty_places.Goals as goal

abbrev empty_places : Dictatorship
empty_places =
    record { quota = 0 ∷ 1 ∷ []; fill = 0 ∷ 0 ∷ []; lists = (0 ∷ 1 ∷ []) ∷ [] ∷ (1 ∷ 0 ∷ []) ∷ [] }

valid : IsValidDictatorship empty_places
unfolding computes dictatorship_fits turn_lists_fit
valid = dictatorship_valid_from empty_places refl refl

pub from_parts-requires : goal.from_parts-requires
from_parts-requires c =
    dictatorship_parts_valid empty_places c.in_ok-quota.quota.items c.in_ok-fill.fill.items
    c.in_ok-lists.lists.items valid
    c.in_ok-quota.ensures.items c.in_ok-fill.ensures.items
    (three_items _ _ _ _ _ _ c.in_ok-lists.lists.items c.in_ok-lists.ensures.items
    c.in_ok-first.ensures c.in_ok-second.ensures c.in_ok-third.ensures)
