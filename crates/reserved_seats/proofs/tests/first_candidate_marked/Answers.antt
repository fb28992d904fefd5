use Rattle.std.proofs.Common.{◌≡◌, true, false, [], ◌∷◌, leb, length, refl, sym, ◌∙◌, subst, arith}
use Rattle.std.proofs.lemmas.Bool.{leb-true}
use Rattle.market.specs.Examples.{rank_bars}
use Rattle.market.specs.Problems.{Problem, list_of}
use Rattle.market.proofs.Checks.{all_below_at}
use Rattle.reserved_seats.specs.Expansion.{FitsMarket}
use Rattle.reserved_seats.specs.Reservations.{Reservation}
use Rattle.reserved_seats.proofs.tests.first_candidate_marked.Goals as goal

-- three seats of the first programme for the first candidate
abbrev three_seats : Reservation
three_seats = record { seats = 3 ∷ 0 ∷ []; marked = true ∷ false ∷ [] }

three_fit : FitsMarket rank_bars three_seats
unfolding list_of
three_fit = record {
  seats = refl;
  marked = refl;
  programmes = omega arith;
  entries = λ i lt. leb-true (length (list_of rank_bars i)) 24
      (all_below_at (λ i. leb (length (list_of rank_bars i)) 24) 2 i refl lt);
}

pub returns : goal.returns
returns c =
    let seats = c.in_ok-seats.ensures.items in
    let marked = c.in_ok-marked.ensures.items in
    let made : three_seats ≡ record {
      seats = c.in_ok-seats.seats.items;
      marked = c.in_ok-marked.marked.items;
    }
    = λ i. record { seats = (sym seats) i; marked = (sym marked) i } in
    subst (λ (m : Problem). FitsMarket m c.from_parts.result) (sym c.in_ok-market.ensures)
    (subst (FitsMarket rank_bars) (made ∙ sym c.from_parts.ensures) three_fit)
