use Rattle.std.proofs.Common.{◌≡◌, sym, ◌+◌, ◌-◌, ◌*◌, ◌^◌, min, ap, ◌∙◌, arith, drop, get_or, true}
use Rattle.std.specs.Char.{is_ascii_digit}
use Rattle.record_files.proofs.Digits.{digits-next, value-next, capped}
use Rattle.record_files.proofs.fields.long_value.Goals as goal

pub loop-byte-preserved : goal.loop-byte-preserved
loop-byte-preserved c =
    let xs = c.args.field.now in
    let i = c.loop-byte.byte-index in
    let v = c.loop-byte.sum in
    let d : is_ascii_digit (get_or xs i 0) ≡ true = sym c.if-not-is_ascii_digit.ensures.value in
    record {
      small = omega arith;
      digits = c.loop-byte.invariant.digits ∙ digits-next xs i (omega arith) d;
      sum = c.loop-byte.invariant.sum ∙ ap (λ w. min w (2 ^ 64)) (value-next xs i v (omega arith) d)
          ∙ capped (drop (i + 1) xs) (10 * v + (get_or xs i 0 - 48)) c.min-sum.result (2 ^ 64)
          (omega arith);
    }
