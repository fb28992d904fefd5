-- A placement file that is read without other files, with or without the kinds of the seats.
use Rattle.std.specs.Prelude.{◌≡◌, ◌≤◌, ℕ, zero, suc, List, [], ◌∷◌, Bool, ◌==◌, ◌||◌, not, bytes_eq, codes, length, map, slice_index_or, if◌then◌else◌, Option, None}
use Rattle.place_base.specs.declared.fault.FaultKind.TheVariants.{BadSeat}
use Rattle.place_base.specs.declared.fault.FileFault.{FileFault}
use Rattle.place_base.specs.declared.fault.FileKind.TheVariants.{Placement}
use Rattle.place_base.specs.declared.limits.TheConstants.{MOST_CANDIDATES}
use Rattle.record_files.specs.FirstFaults.{FileRules, fault_at, fault_if, first_fault, first_of, repeat_fault}
use Rattle.record_files.specs.Form.{Form}
use Rattle.record_files.specs.Rows.{Row, data_rows, field_at}
use Rattle.placement_file.specs.Rows.{code_in, number_in, reading}

-- its two headers and its limit of rows
abbrev pub seats_form : Form
seats_form = record {
  file = Placement;
  headers = codes "candidate,programme" ∷ codes "candidate,programme,seat" ∷ [];
  most_rows = MOST_CANDIDATES;
}

-- a seat fits the programme beside it: G for a general and R for a reserved one, and a dash beside
-- a dash
abbrev pub fits_programme : List ℕ → List ℕ → Bool
fits_programme seat programme =
    if bytes_eq programme (codes "-") then bytes_eq seat (codes "-")
    else (bytes_eq seat (codes "G") || bytes_eq seat (codes "R"))

-- a seat that does not fit
abbrev pub seat_fault : Row → Option FileFault
seat_fault row =
    fault_if (not (fits_programme (field_at row 2) (field_at row 1)))
    (fault_at Placement row.0 3 BadSeat)

-- what is wrong with the fields of a row by themselves: under the second header the seat comes last
abbrev pub reading_alone : ℕ → Row → Option FileFault
reading_alone zero row = reading row
reading_alone (suc version) row = first_of (reading row) (seat_fault row)

-- what is wrong with a row beside the earlier rows
abbrev pub meaning_alone : List Row → Row → Option FileFault
meaning_alone earlier row =
    repeat_fault Placement row.0 1 (λ other. number_in row == number_in other) earlier

-- what may be wrong with a placement file that is read alone
abbrev pub seats_rules : FileRules
seats_rules = record {
  form = seats_form;
  reading = reading_alone;
  meaning = λ version. meaning_alone;
}

-- the first fault of a placement file that is read alone
abbrev pub seats_fault : List ℕ → Option FileFault
seats_fault bytes = first_fault seats_rules bytes

-- candidates, each with the code of the programme held, or none
abbrev pub SeatRows : Type 0
SeatRows = List (ℕ × Option ℕ)

-- the candidate of a row, with the code held
abbrev pub seat_in : Row → ℕ × Option ℕ
seat_in row = (number_in row, code_in row)

-- the candidates of a file in file order
abbrev pub seats_in : List ℕ → SeatRows
seats_in bytes = map seat_in (data_rows bytes)

-- the numbers of the candidates
abbrev pub candidates_of : SeatRows → List ℕ
candidates_of seats = map (λ seat. seat.0) seats

-- the code that the candidate at an index holds, or none
abbrev pub code_held : SeatRows → ℕ → Option ℕ
code_held seats index = (slice_index_or seats index (0, None)).1

-- these are the candidates of these rows, and their lines
pub record HasSeats (rows : List Row) (seats : SeatRows) (lines : List ℕ) : Type 0 where
  pub seats_are : seats ≡ map seat_in rows
  pub lines_are : lines ≡ map (λ row. row.0) rows
  pub few : length rows ≤ MOST_CANDIDATES
