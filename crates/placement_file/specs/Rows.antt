-- The placement file: what its rows hold, and what is wrong with them.
use Rattle.std.specs.Prelude.{ℕ, List, ◌==◌, codes, is_none, nat_eq, position, Option, Some, None}
use Rattle.place_base.specs.declared.fault.FaultKind.TheVariants.{UnknownCandidate, UnknownProgramme}
use Rattle.place_base.specs.declared.fault.FileFault.{FileFault}
use Rattle.place_base.specs.declared.fault.FileKind.TheVariants.{Placement}
use Rattle.place_base.specs.declared.limits.TheConstants.{LARGEST_CODE, LARGEST_NUMBER, MOST_CANDIDATES}
use Rattle.record_files.specs.FirstFaults.{FileRules, fault_at, fault_if, first_fault, first_of, reading_fault, repeat_fault}
use Rattle.record_files.specs.Form.{Form, one_header}
use Rattle.record_files.specs.Numbers.{number_of, optional_number_of, optional_value, value}
use Rattle.record_files.specs.Rows.{Row, field_at}

-- its header and its limit of rows
abbrev pub placement_form : Form
placement_form = one_header Placement (codes "candidate,programme") MOST_CANDIDATES

-- the number of a row's candidate
abbrev pub number_in : Row → ℕ
number_in row = value (field_at row 0)

-- the code in a row, or none
abbrev pub code_in : Row → Option ℕ
code_in row = optional_value (field_at row 1)

-- what is wrong with the fields of a row by themselves
abbrev pub reading : Row → Option FileFault
reading row =
    first_of (reading_fault Placement row.0 1 (number_of (field_at row 0) 1 LARGEST_NUMBER))
    (reading_fault Placement row.0 2 (optional_number_of (field_at row 1) 1 LARGEST_CODE))

-- a code of a row of this line that is none of the programmes'
abbrev pub unknown_fault : List ℕ → ℕ → Option ℕ → Option FileFault
unknown_fault programmes line None = None
unknown_fault programmes line (Some code) =
    fault_if (is_none (position (nat_eq code) programmes))
    (fault_at Placement line 2 UnknownProgramme)

-- what is wrong with a row beside the programmes' codes, the candidates' numbers and the earlier
-- rows
abbrev pub meaning : List ℕ → List ℕ → List Row → Row → Option FileFault
meaning programmes candidates earlier row =
    first_of
    (fault_if (is_none (position (nat_eq (number_in row)) candidates))
    (fault_at Placement row.0 1 UnknownCandidate))
    (first_of (repeat_fault Placement row.0 1 (λ other. number_in row == number_in other) earlier)
    (unknown_fault programmes row.0 (code_in row)))

-- what may be wrong with a placement file
abbrev pub placement_rules : List ℕ → List ℕ → FileRules
placement_rules programmes candidates = record {
  form = placement_form;
  reading = λ version. reading;
  meaning = λ version. meaning programmes candidates;
}

-- the first fault of a placement file
abbrev pub placement_fault : List ℕ → List ℕ → List ℕ → Option FileFault
placement_fault programmes candidates bytes =
    first_fault (placement_rules programmes candidates) bytes
