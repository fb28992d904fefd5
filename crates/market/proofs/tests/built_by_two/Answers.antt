use Rattle.std.proofs.Common.{◌∷◌, [], ◌∙◌, ap, refl, List, ℕ}
use Rattle.market.specs.Problems.{Problem, IsValid, problem}
use Rattle.market.specs.Examples.{prog}
use Rattle.market.proofs.Computes.{computes}
use Rattle.market.proofs.Checks.{counts_fit, programmes_fit, lists_fit, orders_fit, ranks_fit, valid_from, parts_valid, two_items}
use Rattle.market.proofs.tests.built_by_two.Goals as goal

abbrev two_types : Problem
two_types = problem 2 (prog 0 1 ∷ prog 1 1 ∷ []) ((1 ∷ 0 ∷ []) ∷ []) ((0 ∷ []) ∷ (0 ∷ []) ∷ [])
    ((7 ∷ []) ∷ (7 ∷ []) ∷ [])

two_types_valid : IsValid two_types
unfolding computes counts_fit programmes_fit lists_fit orders_fit ranks_fit
two_types_valid = valid_from two_types refl refl refl refl refl

pub build_by-requires-clause-valid : goal.build_by-requires-clause-valid
build_by-requires-clause-valid g c κs within =
    parts_valid two_types c.in_ok-programmes.programmes.items c.in_ok-lists.lists.items
    c.in_ok-orders.orders.items c.in_ok-ranks.ranks.items two_types_valid
    c.in_ok-programmes.ensures.items
    (c.in_ok-lists.ensures.items ∙ ap (λ (xs : List ℕ). xs ∷ []) c.in_ok-list.ensures)
    (two_items c.in_ok-from_slice.field-0 c.in_ok-from_slice-2.field-0 (0 ∷ []) (0 ∷ [])
    c.in_ok-orders.orders.items c.in_ok-orders.ensures.items c.in_ok-from_slice.ensures
    c.in_ok-from_slice-2.ensures)
    (two_items c.in_ok-from_slice-3.field-0 c.in_ok-from_slice-4.field-0 (7 ∷ []) (7 ∷ [])
    c.in_ok-ranks.ranks.items c.in_ok-ranks.ensures.items c.in_ok-from_slice-3.ensures
    c.in_ok-from_slice-4.ensures)
