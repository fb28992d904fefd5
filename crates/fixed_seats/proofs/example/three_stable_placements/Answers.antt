use Rattle.std.proofs.Common.{ap, ◌∙◌}
use Rattle.fixed_seats.specs.Examples.{three_stable}
use Rattle.fixed_seats.specs.Reports.{seats_in}
use Rattle.fixed_seats.proofs.Examples.{three_valid, first_wishes, second_wishes, last_wishes, three_placed, three_shared}
use Rattle.fixed_seats.proofs.example.three_stable_placements.Goals as goal

pub returns : goal.returns
returns c =
    record {
      valid = three_valid;
      first_wishes = first_wishes;
      second_wishes = second_wishes;
      last_wishes = last_wishes;
      mechanism = three_placed;
      shared = ap (seats_in three_stable) three_placed ∙ three_shared;
    }
