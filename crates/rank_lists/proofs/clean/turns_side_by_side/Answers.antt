use Rattle.std.proofs.Common.{◌≡◌, length, get_or, arith}
use Rattle.rank_lists.specs.Clean.{AreTurnsRead, keys_in}
use Rattle.rank_lists.proofs.clean.turns_side_by_side.Goals as goal

pub returns : goal.returns
returns g c =
    let count = c.in_ok-turns.ensures.len in
    let size : length c.in_ok-turns.turns.items ≡ c.args.types = omega arith in
    record {
      size = size;
      each = λ kind d lt. (let fact = (c.in_ok-turns.ensures.each kind d lt).1 in
          let here : AreTurnsRead (keys_in kind c.args.parts.now)
          (get_or c.in_ok-turns.turns.items kind d) = grind arith in
          here);
    }
