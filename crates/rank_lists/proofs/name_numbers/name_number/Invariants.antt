use Rattle.std.proofs.Common.{◌≡◌, ◌-◌, ◌^◌, ◌<◌, ◌≤◌, length, drop}
use Rattle.rank_lists.specs.Groups.{name_number}
use Rattle.rank_lists.proofs.name_numbers.name_number.Given as goal

-- the number of the bytes taken so far, from the back
abbrev pub invariant-bytes : goal.invariant-bytes
invariant-bytes l = record {
  within : l.left ≤ length l.bytes;
  small : l.number < 256 ^ (length l.bytes - l.left);
  number : l.number ≡ name_number (drop l.left l.bytes);
}

abbrev pub decreases-bytes : goal.decreases-bytes
decreases-bytes l = l.left
