use Rattle.std.proofs.Common.{[], ◌∷◌, refl, ap, ◌∙◌}
use Rattle.market.specs.Dictatorships.{Dictatorship, IsValidDictatorship}
use Rattle.market.proofs.Computes.{computes}
use Rattle.market.proofs.Checks.{dictatorship_fits, turn_lists_fit, dictatorship_valid_from, dictatorship_parts_valid}
use Rattle.interleaving_core.proofs.tests.one_turn.Goals as goal

abbrev one_turn : Dictatorship
one_turn = record { quota = 0 ∷ 1 ∷ []; fill = 0 ∷ 0 ∷ []; lists = (0 ∷ 1 ∷ []) ∷ [] }

valid : IsValidDictatorship one_turn
unfolding computes dictatorship_fits turn_lists_fit
valid = dictatorship_valid_from one_turn refl refl

pub from_parts-requires : goal.from_parts-requires
from_parts-requires c =
    dictatorship_parts_valid one_turn c.in_ok-quota.quota.items c.in_ok-fill.fill.items
    c.in_ok-lists.lists.items valid
    c.in_ok-quota.ensures.items c.in_ok-fill.ensures.items
    (c.in_ok-lists.ensures.items ∙ ap (λ l. l ∷ []) c.in_ok-list.ensures)
