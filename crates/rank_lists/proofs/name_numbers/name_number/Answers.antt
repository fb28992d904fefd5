use Rattle.std.proofs.Common.{◌≡◌, ◌+◌, ◌-◌, ◌*◌, ◌^◌, ◌<◌, ◌≤◌, suc, length, drop, get_or, arith, ap, ◌∙◌, ◌∷◌}
use Rattle.std.proofs.Math.Seq.{drop-cons}
use Rattle.rank_lists.proofs.Names.{name-fits, short-name}
use Rattle.rank_lists.proofs.name_numbers.name_number.Goals as goal

pub overflow_mul-number : goal.overflow_mul-number
overflow_mul-number c =
    let taken = length c.args.bytes.now - c.bytes.left in
    let small : c.bytes.number * 256 + 0 < 256 ^ (taken + 1) =
    name-fits taken c.bytes.number 0 c.bytes.invariant.small (omega arith) in
    let short : 256 ^ (taken + 1) ≤ 256 ^ 8 = short-name (taken + 1) (omega arith) in
    omega arith

pub overflow_add-number : goal.overflow_add-number
overflow_add-number c =
    let taken = length c.args.bytes.now - c.bytes.left in
    let fits = (c.type_inv.bytes (c.bytes.left - 1)).fits in
    let byte : c.from.result < 256 = omega arith in
    let small : c.bytes.number * 256 + c.from.result < 256 ^ (taken + 1) =
    name-fits taken c.bytes.number c.from.result c.bytes.invariant.small byte in
    let short : 256 ^ (taken + 1) ≤ 256 ^ 8 = short-name (taken + 1) (omega arith) in
    omega arith

pub bytes-preserved : goal.bytes-preserved
bytes-preserved c =
    let bytes = c.args.bytes.now in
    let place = c.bytes.left - 1 in
    let taken = length bytes - c.bytes.left in
    let fits = (c.type_inv.bytes place).fits in
    let byte : c.from.result < 256 = omega arith in
    let more : length bytes - place ≡ taken + 1 = omega arith in
    let next : suc place ≡ c.bytes.left = omega arith in
    let whole : drop place bytes ≡ get_or bytes place 0 ∷ drop c.bytes.left bytes =
    drop-cons bytes place 0 (omega arith) ∙ ap (λ n. get_or bytes place 0 ∷ drop n bytes) next in
    record {
      within = omega arith;
      small = rw more (name-fits taken c.bytes.number c.from.result c.bytes.invariant.small byte);
      number = rw whole (cc);
    }
