use Rattle.std.proofs.Common.{◌≡◌, ◌++◌, map}
use Rattle.std.specs.List.{range_with_len}
use Rattle.reserved_seats.proofs.BothKinds.{reserved_at}
use Rattle.reserved_seats.proofs.expansion.with_reserved.Given as goal

-- the programmes, and those of the reserved seats so far
abbrev pub invariant-loop-row : goal.invariant-loop-row
invariant-loop-row l =
    l.programmes.items ≡ l.general ++ map (reserved_at l.general l.seats) (range_with_len 0 l.row)
