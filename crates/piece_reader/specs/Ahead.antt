-- What is read of the parts of a file, each by itself.
use Rattle.std.specs.Prelude.{◌≡◌, ◌≤◌, ℕ, List, All, IfOk, IfSome, None, Option, Result, length}
use Rattle.std.specs.List.{AllZip, flat_map}
use Rattle.record_files.specs.FirstFaults.{FileRules, first_row_fault, shape_fault}
use Rattle.record_files.specs.Form.{header_in, version_in}
use Rattle.record_files.specs.Rows.{Row, data_rows, rows}
use Rattle.record_files.specs.declared.form.Header.{Header}
use Rattle.record_files.specs.declared.reading.RowsRead.{RowsRead}

-- nothing is wrong with a row by itself, wherever below the limit it stands
pub record IsClean (rules : FileRules) (header : Header) (row : Row) : Type 0 where
  pub shape : shape_fault rules.form header.fields 0 row ≡ None
  pub reading : rules.reading header.version row ≡ None

-- these are the table and the number of rows that are clean
pub record IsPartRead {G : Type 0} (rules : FileRules) (header : Header)
    (HasRows : ℕ → List Row → G → Type 0) (rows : List Row) (read : RowsRead G) : Type 0 where
  pub has : HasRows header.version rows read.table
  pub clean : All (IsClean rules header) rows
  pub count : read.count ≡ length rows

-- the header and each row of a file are right by themselves, there are no more rows than the file
-- may have, and these tables hold its rows under that header, part by part
pub record AreReadAhead {G : Type 0} (rules : FileRules) (HasRows : ℕ → List Row → G → Type 0)
    (bytes : List ℕ) (tables : List G) : Type 0 where
  pub header : first_row_fault rules.form (rows bytes) ≡ None
  pub clean : All (IsClean rules (header_in rules.form (rows bytes))) (data_rows bytes)
  pub few : length (data_rows bytes) ≤ rules.form.most_rows
  pub lists : List (List Row)
  pub whole : flat_map (λ rows. rows) lists ≡ data_rows bytes
  pub each : AllZip (HasRows (version_in rules.form bytes)) lists tables

-- each part was read, where memory was not refused and nothing in it is wrong by itself
abbrev pub ArePartsRead : {G E : Type 0} → FileRules → Header → (ℕ → List Row → G → Type 0)
    → List (List Row) → List (Result (Option (RowsRead G)) E) → Type 0
ArePartsRead rules header HasRows lists parts =
    AllZip (λ rows part. IfOk part (λ read. IfSome read (IsPartRead rules header HasRows rows)))
    lists parts

-- the tables of parts with these rows hold all of them, which are clean and not too many
pub record AreTablesOf {G : Type 0} (rules : FileRules) (header : Header)
    (HasRows : ℕ → List Row → G → Type 0) (lists : List (List Row)) (tables : List G)
    : Type 0 where
  pub each : AllZip (HasRows header.version) lists tables
  pub clean : All (IsClean rules header) (flat_map (λ rows. rows) lists)
  pub few : length (flat_map (λ rows. rows) lists) ≤ rules.form.most_rows
