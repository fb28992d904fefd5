-- What the placement says of a candidate.
use Rattle.std.specs.Prelude.{ℕ, nat_eq, Option, None, slice_index_or}
use Rattle.std.specs.Map.{lookup}
use Rattle.placement_file.specs.SeatLists.{SeatRows}

-- what the placement says of a candidate: nothing where it does not have it, and else the code
-- held, or none
abbrev pub seat_of : SeatRows → ℕ → Option (Option ℕ)
seat_of seats candidate = lookup (nat_eq candidate) seats

-- the candidate at an index, with the code held
abbrev pub seat_row_at : SeatRows → ℕ → ℕ × Option ℕ
seat_row_at seats index = slice_index_or seats index (0, None)
