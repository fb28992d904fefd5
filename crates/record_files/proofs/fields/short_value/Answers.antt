use Rattle.std.proofs.Common.{◌≡◌, ◌+◌, ◌*◌, ◌^◌, ◌<◌, ◌≤◌, ◌∙◌, sym, ap, arith, drop, get_or, true}
use Rattle.std.specs.Char.{is_ascii_digit}
use Rattle.std.specs.Str.Parse.{digits_value_after}
use Rattle.record_files.proofs.Digits.{digits-next, value-next, digits-fit, short-fits}
use Rattle.record_files.proofs.fields.short_value.Goals as goal

pub overflow_mul-sum : goal.overflow_mul-sum
overflow_mul-sum c =
    let small : 10 * c.loop-byte.sum + 0 < 10 ^ (c.loop-byte.byte-index + 1) =
    digits-fit _ _ 0 c.loop-byte.invariant.small (omega arith) in
    let fits : 10 ^ (c.loop-byte.byte-index + 1) ≤ 10 ^ 19 = short-fits _ (omega arith) in
    omega arith

pub overflow_add-sum : goal.overflow_add-sum
overflow_add-sum c =
    let small : 10 * c.loop-byte.sum + c.from.result < 10 ^ (c.loop-byte.byte-index + 1) =
    digits-fit _ _ c.from.result c.loop-byte.invariant.small
    (omega (arith, c.if-not-is_ascii_digit.ensures.cases)) in
    let fits : 10 ^ (c.loop-byte.byte-index + 1) ≤ 10 ^ 19 = short-fits _ (omega arith) in
    omega arith

pub loop-byte-preserved : goal.loop-byte-preserved
loop-byte-preserved c =
    let xs = c.args.field.now in
    let i = c.loop-byte.byte-index in
    let d : is_ascii_digit (get_or xs i 0) ≡ true = sym c.if-not-is_ascii_digit.ensures.value in
    record {
      small = digits-fit _ _ c.from.result c.loop-byte.invariant.small
          (omega (arith, c.if-not-is_ascii_digit.ensures.cases));
      digits = c.loop-byte.invariant.digits ∙ digits-next xs i (omega arith) d;
      sum = c.loop-byte.invariant.sum ∙ value-next xs i c.loop-byte.sum (omega arith) d
          ∙ ap (λ n. digits_value_after 10 (10 * c.loop-byte.sum + n) (drop (i + 1) xs))
          (sym c.from.ensures);
    }
