-- The candidates file: what its rows hold, and what is wrong with them.
use Rattle.std.specs.Prelude.{ℕ, List, [], ◌∷◌, ◌==◌, nat_eq, nat_lt, is_none, codes, map, length, position, take, slice_index, if◌then◌else◌, Option, Result, Ok, Err}
use Rattle.std.specs.List.{list_any}
use Rattle.place_base.specs.declared.fault.FaultKind.{FaultKind}
use Rattle.place_base.specs.declared.fault.FaultKind.TheVariants.{ListTooLong, UnknownProgramme}
use Rattle.place_base.specs.declared.fault.FileFault.{FileFault}
use Rattle.place_base.specs.declared.fault.FileKind.TheVariants.{Candidates}
use Rattle.place_base.specs.declared.limits.TheConstants.{LARGEST_CODE, LARGEST_NUMBER, MOST_CANDIDATES, MOST_ENTRIES, SEMICOLON}
use Rattle.record_files.specs.FirstFaults.{FileRules, duplicate_at, fault_at, fault_if, first_fault, first_of, least_fault, reading_fault, repeat_fault}
use Rattle.record_files.specs.Form.{Form, one_header}
use Rattle.record_files.specs.Numbers.{number_of, value}
use Rattle.record_files.specs.Rows.{Row, field_at, split}

-- its header and its limit of rows
abbrev pub candidates_form : Form
candidates_form = one_header Candidates (codes "candidate,list") MOST_CANDIDATES

-- the number of a row's candidate
abbrev pub number_in : Row → ℕ
number_in row = value (field_at row 0)

-- the entries of a list: none where the field is empty, else the stretches between its semicolons
abbrev pub entries_of : List ℕ → List (List ℕ)
entries_of [] = []
entries_of (b ∷ bs) = split SEMICOLON (b ∷ bs)

-- the codes of a row's list, best first
abbrev pub codes_in : Row → List ℕ
codes_in row = map value (entries_of (field_at row 1))

-- a code in front of others, or what is wrong with it, or else with the others
abbrev pub with_first : Result ℕ FaultKind → Result (List ℕ) FaultKind → Result (List ℕ) FaultKind
with_first (Err kind) others = Err kind
with_first (Ok code) (Err kind) = Err kind
with_first (Ok code) (Ok others) = Ok (code ∷ others)

-- the codes of entries, or what is wrong with the first entry that is none
abbrev pub codes_read : List (List ℕ) → Result (List ℕ) FaultKind
codes_read [] = Ok []
codes_read (entry ∷ entries) = with_first (number_of entry 1 LARGEST_CODE) (codes_read entries)

-- the codes of a list of at most 24 entries, or what is wrong with the list
abbrev pub list_of : List ℕ → Result (List ℕ) FaultKind
list_of field =
    if nat_lt MOST_ENTRIES (length (entries_of field))
    then Err ListTooLong
    else codes_read (entries_of field)

-- what is wrong with the fields of a row by themselves
abbrev pub reading : Row → Option FileFault
reading row =
    first_of (reading_fault Candidates row.0 1 (number_of (field_at row 0) 1 LARGEST_NUMBER))
    (reading_fault Candidates row.0 2 (list_of (field_at row 1)))

-- a code of a list of this line that is none of the programmes'
abbrev pub unknown_fault : List ℕ → ℕ → ℕ → Option FileFault
unknown_fault programmes line code =
    fault_if (is_none (position (nat_eq code) programmes))
    (fault_at Candidates line 2 UnknownProgramme)

-- a code of a list of this line that stands among those before it
abbrev pub again_fault : ℕ → List ℕ → ℕ → Option FileFault
again_fault line before code =
    fault_if (list_any (λ other. other == code) before) (duplicate_at Candidates line 2 line)

-- what is wrong with the entry at an index of a list of this line
abbrev pub entry_fault : List ℕ → ℕ → List ℕ → ℕ → Option FileFault
entry_fault programmes line list index =
    let code = slice_index list index in
    first_of (unknown_fault programmes line code) (again_fault line (take index list) code)

-- what is wrong with a list of this line: with the first of its entries that is wrong
abbrev pub list_fault : List ℕ → ℕ → List ℕ → Option FileFault
list_fault programmes line list = least_fault (entry_fault programmes line list) (length list)

-- what is wrong with a row beside the programmes' codes and the earlier rows
abbrev pub meaning : List ℕ → List Row → Row → Option FileFault
meaning programmes earlier row =
    first_of (repeat_fault Candidates row.0 1 (λ other. number_in row == number_in other) earlier)
    (list_fault programmes row.0 (codes_in row))

-- what may be wrong with a candidates file beside the programmes' codes
abbrev pub candidates_rules : List ℕ → FileRules
candidates_rules programmes = record {
  form = candidates_form;
  reading = λ version. reading;
  meaning = λ version. meaning programmes;
}

-- the first fault of a candidates file beside the programmes' codes
abbrev pub candidates_fault : List ℕ → List ℕ → Option FileFault
candidates_fault programmes bytes = first_fault (candidates_rules programmes) bytes
