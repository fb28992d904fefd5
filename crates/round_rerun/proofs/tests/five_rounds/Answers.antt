use Rattle.std.proofs.Common.{◌≡◌, ◌∷◌, [], ◌∙◌, refl}
use Rattle.market.specs.Examples.{prog}
use Rattle.market.specs.Problems.{Problem, IsValid}
use Rattle.market.proofs.Checks.{valid_from, parts_valid, counts_fit, programmes_fit, lists_fit, orders_fit, ranks_fit}
use Rattle.market.proofs.Computes.{computes}
use Rattle.round_rerun.proofs.tests.five_rounds.Goals as goal

-- the market of five rounds
abbrev written : Problem
written =
    record {
      types = 4;
      programmes = prog 2 1 ∷ prog 0 1 ∷ prog 0 1 ∷ prog 0 1 ∷ prog 1 1 ∷ [];
      lists = (3 ∷ 4 ∷ 0 ∷ 2 ∷ []) ∷ (0 ∷ 3 ∷ []) ∷ (1 ∷ 2 ∷ 0 ∷ 4 ∷ []) ∷ (1 ∷ 2 ∷ []) ∷ [];
      orders = (1 ∷ 2 ∷ 0 ∷ 3 ∷ []) ∷ (3 ∷ 2 ∷ 1 ∷ 0 ∷ []) ∷ (0 ∷ 2 ∷ 3 ∷ 1 ∷ [])
          ∷ (0 ∷ 1 ∷ 2 ∷ 3 ∷ []) ∷ [];
      ranks = (1 ∷ 2 ∷ 3 ∷ 4 ∷ []) ∷ (1 ∷ 2 ∷ 3 ∷ 4 ∷ []) ∷ (1 ∷ 2 ∷ 3 ∷ 4 ∷ [])
          ∷ (1 ∷ 2 ∷ 3 ∷ 4 ∷ []) ∷ [];
    }

-- it is valid
written_valid : IsValid written
unfolding computes counts_fit programmes_fit lists_fit orders_fit ranks_fit
written_valid = valid_from written refl refl refl refl refl

pub build-requires : goal.build-requires
build-requires c =
    parts_valid written c.in_ok-programmes.programmes.items c.in_ok-lists.lists.items
    c.in_ok-orders.orders.items c.in_ok-ranks.ranks.items written_valid
    (c.in_ok-programmes.ensures.items
    ∙ (λ i. c.one_seat.ensures i ∷ c.one_seat-2.ensures i ∷ c.one_seat-3.ensures i
    ∷ c.one_seat-4.ensures i ∷ c.one_seat-5.ensures i ∷ []))
    c.in_ok-lists.ensures c.in_ok-orders.ensures c.in_ok-ranks.ensures
