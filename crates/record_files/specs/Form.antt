-- The form of a file.
use Rattle.std.specs.Prelude.{◌≡◌, ◌<◌, ℕ, List, [], ◌∷◌, length, bytes_eq, position, slice_index_or, unwrap_or, Option}
use Rattle.place_base.specs.declared.fault.FileKind.{FileKind}
use Rattle.place_base.specs.declared.limits.TheConstants.{COMMA}
use Rattle.record_files.specs.Rows.{Row, fields_of, rows, split}
use Rattle.record_files.specs.declared.form.Header.{Header}

-- which file it is, the headers that it may have, and how many data rows
pub record Form : Type 0 where
  pub file : FileKind
  pub headers : List (List ℕ)
  pub most_rows : ℕ

-- the form of a file that may have one header
abbrev pub one_header : FileKind → List ℕ → ℕ → Form
one_header file header most_rows =
    record { file = file; headers = header ∷ []; most_rows = most_rows }

-- which of the headers a row is, counted from 0
abbrev pub version_of : Form → Row → Option ℕ
version_of form row = position (bytes_eq row.1) form.headers

-- the header that the first row is: which one, and how many fields it has
abbrev pub header_in : Form → List Row → Header
header_in form rows =
    let row = slice_index_or rows 0 (0, []) in
    record { version = unwrap_or (version_of form row) 0; fields = length (fields_of row) }

-- which of its form's headers a file has, counted from 0
abbrev pub version_in : Form → List ℕ → ℕ
version_in form bytes = (header_in form (rows bytes)).version

-- a header of a form
pub record IsHeaderOf (form : Form) (header : Header) : Type 0 where
  pub version : header.version < length form.headers
  pub fields : header.fields ≡ length (split COMMA (slice_index_or form.headers header.version []))
