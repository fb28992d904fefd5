use Rattle.std.proofs.Common.{◌≡◌, ◌^◌, ◌≤◌, min, drop}
use Rattle.std.specs.Str.Parse.{digits_value_after}
use Rattle.record_files.specs.Numbers.{all_digits, value}
use Rattle.record_files.proofs.fields.long_value.Given as goal

-- what is left decides whether all are digits, and adds to the sum
abbrev pub invariant-loop-byte : goal.invariant-loop-byte
invariant-loop-byte l = record {
  small : l.sum ≤ 2 ^ 64;
  digits : all_digits l.field ≡ all_digits (drop l.byte-index l.field);
  sum : min (value l.field) (2 ^ 64)
      ≡ min (digits_value_after 10 l.sum (drop l.byte-index l.field)) (2 ^ 64);
}
