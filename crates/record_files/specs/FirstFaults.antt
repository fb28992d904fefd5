-- The first fault of a file, apart from any order of reading.
use Rattle.std.specs.Prelude.{ℕ, zero, suc, List, [], ◌∷◌, Bool, ◌==◌, not, nat_lt, nat_le, is_none, length, take, find, slice_get, if◌then◌else◌, Option, Some, None, option_map, option_and_then, Result, Ok, Err}
use Rattle.place_base.specs.declared.fault.FaultKind.{FaultKind}
use Rattle.place_base.specs.declared.fault.FaultKind.TheVariants.{Header as BadHeader, FieldCount, Duplicate, TooManyRows, LineTooLong}
use Rattle.place_base.specs.declared.fault.FileFault.{FileFault}
use Rattle.place_base.specs.declared.fault.FileKind.{FileKind}
use Rattle.place_base.specs.declared.limits.TheConstants.{LONGEST_LINE}
use Rattle.record_files.specs.Rows.{Row, rows, data_rows, fields_of}
use Rattle.record_files.specs.Form.{Form, header_in, version_of}
use Rattle.record_files.specs.declared.form.Header.{Header}

-- a fault that repeats no line
abbrev pub fault_at : FileKind → ℕ → ℕ → FaultKind → FileFault
fault_at file line field kind =
    record { file = file; line = line; field = field; kind = kind; earlier = 0 }

-- a fault that repeats an earlier line
abbrev pub duplicate_at : FileKind → ℕ → ℕ → ℕ → FileFault
duplicate_at file line field earlier =
    record { file = file; line = line; field = field; kind = Duplicate; earlier = earlier }

-- a fault where the test holds
abbrev pub fault_if : Bool → FileFault → Option FileFault
fault_if test fault = if test then Some fault else None

-- the first fault that is there
abbrev pub first_of : Option FileFault → Option FileFault → Option FileFault
first_of (Some fault) other = Some fault
first_of None other = other

-- the fault of a field that was read as a value
abbrev pub reading_fault : {A : Type 0} → FileKind → ℕ → ℕ → Result A FaultKind → Option FileFault
reading_fault file line field (Ok read) = None
reading_fault file line field (Err kind) = Some (fault_at file line field kind)

-- the fault of a field that repeats an earlier row, which the test finds
abbrev pub repeat_fault : FileKind → ℕ → ℕ → (Row → Bool) → List Row → Option FileFault
repeat_fault file line field same earlier =
    option_map (λ row. duplicate_at file line field row.0) (find same earlier)

-- a line that is too long
abbrev pub long_fault : Form → Row → Option FileFault
long_fault form row =
    fault_if (nat_lt LONGEST_LINE (length row.1)) (fault_at form.file row.0 0 LineTooLong)

-- the fault of a first row
abbrev pub header_fault : Form → Row → Option FileFault
header_fault form row =
    first_of (long_fault form row)
    (fault_if (is_none (version_of form row)) (fault_at form.file row.0 0 BadHeader))

-- the fault of the first row of a file, or that of a file without rows
abbrev pub first_row_fault : Form → List Row → Option FileFault
first_row_fault form [] = Some (fault_at form.file 1 0 BadHeader)
first_row_fault form (row ∷ behind) = header_fault form row

-- the fault of the data row at an index, before its fields are read, under a header of so many
-- fields
abbrev pub shape_fault : Form → ℕ → ℕ → Row → Option FileFault
shape_fault form fields index row =
    first_of (long_fault form row)
    (first_of (fault_if (nat_le form.most_rows index) (fault_at form.file row.0 0 TooManyRows))
    (fault_if (not (length (fields_of row) == fields)) (fault_at form.file row.0 0 FieldCount)))

-- what a kind of file may have: its form, and under each of its headers what is wrong with the
-- fields of a row by themselves, and what is wrong with a row beside the earlier rows and the other
-- files
pub record FileRules : Type 0 where
  pub form : Form
  pub reading : ℕ → Row → Option FileFault
  pub meaning : ℕ → List Row → Row → Option FileFault

-- the fault of a data row behind the earlier ones: its shape, then its fields by themselves, then
-- what it means
abbrev pub fault_behind : FileRules → Header → List Row → Row → Option FileFault
fault_behind rules header earlier row =
    first_of (shape_fault rules.form header.fields (length earlier) row)
    (first_of (rules.reading header.version row) (rules.meaning header.version earlier row))

-- the fault of the row of a list at an index, under a header
abbrev pub fault_in : FileRules → Header → List Row → ℕ → Option FileFault
fault_in rules header all index =
    option_and_then (fault_behind rules header (take index all)) (slice_get all index)

-- the fault of the data row at an index
abbrev pub row_fault : FileRules → List ℕ → ℕ → Option FileFault
row_fault rules bytes index =
    fault_in rules (header_in rules.form (rows bytes)) (data_rows bytes) index

-- the fault of the least index below a number that has one
unfoldable pub least_fault : (ℕ → Option FileFault) → ℕ → Option FileFault
least_fault fault zero = None
least_fault fault (suc n) = first_of (least_fault fault n) (fault n)

-- the first fault of a file: that of its first row, or that of the least data row that has one
abbrev pub first_fault : FileRules → List ℕ → Option FileFault
first_fault rules bytes =
    first_of (first_row_fault rules.form (rows bytes))
    (least_fault (row_fault rules bytes) (length (data_rows bytes)))
