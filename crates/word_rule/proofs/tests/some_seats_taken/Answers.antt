use Rattle.std.proofs.Common.{[], ◌∷◌, ◌∙◌, refl}
use Rattle.market.specs.Dictatorships.{Dictatorship, IsValidDictatorship}
use Rattle.market.proofs.Checks.{dictatorship_fits, turn_lists_fit, dictatorship_valid_from, dictatorship_parts_valid, two_items}
use Rattle.market.proofs.Computes.{computes}
use Rattle.word_rule.proofs.tests.some_seats_taken.Goals as goal

abbrev some_taken : Dictatorship
some_taken =
    record {
      quota = 2 ∷ 1 ∷ 3 ∷ [];
      fill = 1 ∷ 0 ∷ 3 ∷ [];
      lists = (0 ∷ 1 ∷ []) ∷ (2 ∷ []) ∷ [];
    }

some_taken_valid : IsValidDictatorship some_taken
unfolding computes dictatorship_fits turn_lists_fit
some_taken_valid = dictatorship_valid_from some_taken refl refl

pub from_parts-requires : goal.from_parts-requires
from_parts-requires c =
    dictatorship_parts_valid some_taken c.in_ok-quota.quota.items c.in_ok-fill.fill.items
    c.in_ok-lists.lists.items some_taken_valid
    c.in_ok-quota.ensures.items c.in_ok-fill.ensures.items
    (two_items _ _ _ _ _ c.in_ok-lists.ensures.items
    (c.from_vec-first.ensures ∙ c.in_ok-vec.ensures.items)
    (c.from_vec-second.ensures ∙ c.in_ok-vec-2.ensures.items))
