-- The requests of a registrations file.
use Rattle.std.specs.Prelude.{◌≡◌, ◌≤◌, ℕ, List, codes, length, map, Option, None}
use Rattle.place_base.specs.declared.fault.FileFault.{FileFault}
use Rattle.place_base.specs.declared.fault.FileKind.TheVariants.{Registrations}
use Rattle.place_base.specs.declared.limits.TheConstants.{LARGEST_NUMBER, MOST_REQUESTS}
use Rattle.record_files.specs.FirstFaults.{FileRules, first_fault, reading_fault}
use Rattle.record_files.specs.Form.{Form, one_header}
use Rattle.record_files.specs.Numbers.{number_of, value}
use Rattle.record_files.specs.Rows.{Row, data_rows, field_at}

-- its header and its limit of rows
abbrev pub requests_form : Form
requests_form = one_header Registrations (codes "candidate") MOST_REQUESTS

-- the number of the candidate that a row names
abbrev pub candidate_in : Row → ℕ
candidate_in row = value (field_at row 0)

-- what is wrong with the field of a row by itself
abbrev pub requests_reading : Row → Option FileFault
requests_reading row =
    reading_fault Registrations row.0 1 (number_of (field_at row 0) 1 LARGEST_NUMBER)

-- what may be wrong with a registrations file: a row may say what an earlier row says
abbrev pub requests_rules : FileRules
requests_rules = record {
  form = requests_form;
  reading = λ version. requests_reading;
  meaning = λ version earlier row. None;
}

-- the first fault of a registrations file
abbrev pub requests_fault : List ℕ → Option FileFault
requests_fault bytes = first_fault requests_rules bytes

-- the candidates that the rows of a file name, in file order
abbrev pub requests_in : List ℕ → List ℕ
requests_in bytes = map candidate_in (data_rows bytes)

-- these are the candidates that these rows name
pub record HasRequests (rows : List Row) (candidates : List ℕ) : Type 0 where
  pub candidates_are : candidates ≡ map candidate_in rows
  pub few : length rows ≤ MOST_REQUESTS
