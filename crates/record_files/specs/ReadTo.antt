-- What reading a file row by row comes to.
use Rattle.std.specs.Prelude.{◌≡◌, ◌≤◌, ◌<◌, ℕ, List, length, take, None, Some, Option, Result, Ok, Err, ⊤}
use Rattle.place_base.specs.declared.fault.FileFault.{FileFault}
use Rattle.record_files.specs.FirstFaults.{FileRules, fault_in, first_fault, first_of, first_row_fault, least_fault}
use Rattle.record_files.specs.Form.{header_in}
use Rattle.record_files.specs.Rows.{Row, rows, data_rows}
use Rattle.record_files.specs.declared.form.Header.{Header}
use Rattle.record_files.specs.declared.reading.RowsRead.{RowsRead}
use Rattle.record_files.specs.declared.table_stop.TableStop.{TableStop}
use Rattle.record_files.specs.declared.table_stop.TableStop.TheVariants.{Fault, Memory}

-- what reading a file comes to: there is no fault and this holds of what was read, else the fault;
-- want of memory says nothing
abbrev pub IsFileRead : {T : Type 0} → Option FileFault → (T → Type 0) → Result T TableStop → Type 0
IsFileRead fault IsMeant (Ok read) = (fault ≡ None) × IsMeant read
IsFileRead fault IsMeant (Err (Fault found)) = fault ≡ Some found
IsFileRead fault IsMeant (Err Memory) = ⊤

-- the same, where what is read is known
abbrev pub IsTableRead : {T : Type 0} → Option FileFault → T → Result T TableStop → Type 0
IsTableRead fault table result = IsFileRead fault (λ read. read ≡ table) result

-- what taking a row over comes to: nothing is wrong with it and the table has grown, or its fault
-- is told and the table is that of before
abbrev pub IsRowTaken : Option FileFault → Type 0 → Type 0 → Option FileFault → Type 0
IsRowTaken fault before grown None = (fault ≡ None) × grown
IsRowTaken fault before grown (Some found) = (fault ≡ Some found) × before

-- what reading a list of rows comes to, behind a header that may have a fault: the first so many
-- have no fault, and this holds of them under the header; the fault that is told is the header's,
-- and then no row was read, or that of the row behind them; where none is told all were read
pub record AreRowsTaken {T : Type 0} (rules : FileRules) (of_header : Option FileFault)
    (header : Header) (HasRows : ℕ → List Row → T → Type 0) (all : List Row) (read : RowsRead T)
    : Type 0 where
  pub within : read.count ≤ length all
  pub has : HasRows header.version (take read.count all) read.table
  pub passed : 0 < read.count → of_header ≡ None
  pub none : least_fault (fault_in rules header all) read.count ≡ None
  pub here : first_of of_header (fault_in rules header all read.count) ≡ read.fault
  pub whole : read.fault ≡ None → read.count ≡ length all

-- what reading the rows of a file comes to: its first fault is told, where it has one, and this
-- holds of the rows before that under its header
pub record AreRowsRead {T : Type 0} (rules : FileRules) (bytes : List ℕ)
    (HasRows : ℕ → List Row → T → Type 0) (read : RowsRead T) : Type 0 where
  pub first : first_fault rules bytes ≡ read.fault
  pub taken : AreRowsTaken rules (first_row_fault rules.form (rows bytes))
      (header_in rules.form (rows bytes)) HasRows (data_rows bytes) read
