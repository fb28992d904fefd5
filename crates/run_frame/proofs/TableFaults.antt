-- No fault of a table is that its file is too long, which is found before the table is read. A
-- table's fault stands on a line of its file, and lines are counted from 1; that a file is too long
-- stands on none.
use Rattle.std.proofs.Common.{◌<◌, ◌+◌, ℕ, zero, suc, List, [], ◌∷◌, Bool, true, false, Option, Some, None, Result, Ok, Err, arith, drop, find, take}
use Rattle.std.specs.Prelude.{length, slice_get, option_and_then, option_map}
use Rattle.std.specs.Str.Lines.{strip_carriage_return}
use Rattle.place_base.specs.declared.fault.FaultKind.{FaultKind}
use Rattle.place_base.specs.declared.fault.FaultKind.TheVariants.{Header as BadHeader}
use Rattle.place_base.specs.declared.fault.FileFault.{FileFault}
use Rattle.place_base.specs.declared.fault.FileKind.{FileKind}
use Rattle.place_base.specs.declared.limits.TheConstants.{LF}
use Rattle.record_files.specs.FirstFaults.{FileRules, duplicate_at, fault_at, fault_behind, fault_if, first_fault, first_of, first_row_fault, least_fault, reading_fault, repeat_fault, row_fault, shape_fault}
use Rattle.record_files.specs.Form.{Form, header_in}
use Rattle.record_files.specs.Rows.{Row, data_rows, numbered, row_and, rows, split, without_mark}
use Rattle.record_files.specs.declared.form.Header.{Header}

-- a fault that may be there stands on a line
unfoldable pub HasLine : Option FileFault → Type 0
HasLine None = Unit {0}
HasLine (Some fault) = 0 < fault.line

-- none does, and so does one whose line is one of the file's
pub line-none : HasLine None
unfolding HasLine
line-none = tt

line-some : (fault : FileFault) → 0 < fault.line → HasLine (Some fault)
unfolding HasLine
line-some fault some = some

-- the first of two that stand on a line does
pub line-first : (a b : Option FileFault) → HasLine a → HasLine b → HasLine (first_of a b)
unfolding HasLine
line-first None b p q = q
line-first (Some fault) b p q = p

-- so does the fault of a test
pub line-if : (test : Bool) (fault : FileFault) → 0 < fault.line → HasLine (fault_if test fault)
unfolding HasLine
line-if true fault some = some
line-if false fault some = tt

-- so does that of a field of a row
pub line-reading : {A : Type 0} (kind : FileKind) (line field : ℕ) (read : Result A FaultKind)
    → 0 < line → HasLine (reading_fault kind line field read)
unfolding HasLine
line-reading kind line field (Ok read) some = tt
line-reading kind line field (Err unread) some = some

line-found : (kind : FileKind) (line field : ℕ) (found : Option Row) → 0 < line
    → HasLine (option_map (λ row. duplicate_at kind line field row.0) found)
unfolding HasLine
line-found kind line field None some = tt
line-found kind line field (Some row) some = some

-- so does that of a row that repeats one
pub line-repeat : (kind : FileKind) (line field : ℕ) (same : Row → Bool) (earlier : List Row)
    → 0 < line → HasLine (repeat_fault kind line field same earlier)
line-repeat kind line field same earlier some = line-found kind line field (find same earlier) some

-- so does the first of several
pub line-least : (fault : ℕ → Option FileFault) → ((k : ℕ) → HasLine (fault k)) → (n : ℕ)
    → HasLine (least_fault fault n)
unfolding HasLine least_fault
line-least fault each zero = tt
line-least fault each (suc n) =
    line-first (least_fault fault n) (fault n) (line-least fault each n) (each n)

-- the rows of a list stand on lines
abbrev HaveLines : List Row → Type 0
HaveLines [] = Unit {0}
HaveLines (row ∷ rows) = (0 < row.0) × HaveLines rows

lines-and : (line : ℕ) (text : List ℕ) (rows : List Row) → 0 < line → HaveLines rows
    → HaveLines (row_and line text rows)
lines-and line [] rows some lines = lines
lines-and line (byte ∷ bytes) rows some lines = (some, lines)

lines-numbered : (line : ℕ) (texts : List (List ℕ)) → 0 < line → HaveLines (numbered line texts)
lines-numbered line [] some = tt
lines-numbered line (text ∷ texts) some =
    lines-and line (strip_carriage_return text) (numbered (line + 1) texts) some
    (lines-numbered (line + 1) texts (omega (arith, some)))

lines-behind : (rows : List Row) → HaveLines rows → HaveLines (drop 1 rows)
lines-behind [] lines = tt
lines-behind (row ∷ rows) (some, lines) = lines

-- what is wrong with a row by these rules stands on the row's line
pub record StandOnLines (rules : FileRules) : Type 0 where
  pub reading : (version : ℕ) (row : Row) → 0 < row.0 → HasLine (rules.reading version row)
  pub meaning : (version : ℕ) (earlier : List Row) (row : Row) → 0 < row.0
      → HasLine (rules.meaning version earlier row)

line-shape : (form : Form) (fields index : ℕ) (row : Row) → 0 < row.0
    → HasLine (shape_fault form fields index row)
line-shape form fields index row some =
    search (some, line-first, line-if)

line-first_row : (form : Form) (lines : List Row) → HaveLines lines
    → HasLine (first_row_fault form lines)
line-first_row form [] lines = line-some (fault_at form.file 1 0 BadHeader) (omega arith)
line-first_row form (row ∷ behind) (some, lines) = search (some, line-first, line-if)

module _ (rules : FileRules) (header : Header) (stand : StandOnLines rules) where
  line-row : (earlier lines : List Row) → HaveLines lines → (index : ℕ)
      → HasLine (option_and_then (fault_behind rules header earlier) (slice_get lines index))
  unfolding HasLine
  line-row earlier [] lines index = tt
  line-row earlier (row ∷ behind) (some, lines) zero =
      line-first _ _ (line-shape rules.form header.fields (length earlier) row some)
      (line-first _ _ (stand.reading header.version row some)
      (stand.meaning header.version earlier row some))
  line-row earlier (row ∷ behind) (some, lines) (suc index) = line-row earlier behind lines index

-- so each fault of a file by such rules stands on a line
pub line-file : (rules : FileRules) (bytes : List ℕ) → StandOnLines rules
    → HasLine (first_fault rules bytes)
line-file rules bytes stand =
    let lines = lines-numbered 1 (split LF (without_mark bytes)) (omega arith) in
    line-first _ _ (line-first_row rules.form (rows bytes) lines)
    (line-least (row_fault rules bytes)
    (λ index. line-row rules (header_in rules.form (rows bytes)) stand
    (take index (data_rows bytes)) (data_rows bytes) (lines-behind (rows bytes) lines) index)
    (length (data_rows bytes)))
