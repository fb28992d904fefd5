use Rattle.second_placement.proofs.Examples as example
use Rattle.second_placement.proofs.example.three_for_two_placements.Goals as goal

pub returns : goal.returns
returns c =
    record {
      valid = example.valid;
      first = example.first;
      one = example.one;
      both = example.both;
      nobody = example.nobody;
    }
