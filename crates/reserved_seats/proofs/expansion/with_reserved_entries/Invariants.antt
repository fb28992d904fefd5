use Rattle.std.proofs.Common.{◌≡◌, true, take}
use Rattle.reserved_seats.specs.Expansion.{offered_list}
use Rattle.reserved_seats.proofs.expansion.with_reserved_entries.Given as goal

-- the list over offers of the rows so far
abbrev pub invariant-loop-row : goal.invariant-loop-row
invariant-loop-row l = l.offered.items ≡ offered_list l.rows true (take l.row-index l.list)
