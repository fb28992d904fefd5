-- The programmes file: what its rows hold, and what is wrong with them.
use Rattle.std.specs.Prelude.{ℕ, zero, suc, List, [], ◌∷◌, Bool, ◌==◌, ◌&&◌, not, nat_le, bytes_eq, codes, filter, map, length, Option, None}
use Rattle.std.specs.List.{list_any}
use Rattle.place_base.specs.declared.fault.FaultKind.TheVariants.{OutOfRange}
use Rattle.place_base.specs.declared.fault.FileFault.{FileFault}
use Rattle.place_base.specs.declared.fault.FileKind.TheVariants.{Programmes}
use Rattle.place_base.specs.declared.limits.TheConstants.{LARGEST_CODE, LARGEST_QUOTA, LARGEST_RANK, MOST_PROGRAMMES, MOST_TYPES}
use Rattle.record_files.specs.FirstFaults.{FileRules, fault_at, fault_if, first_fault, first_of, reading_fault, repeat_fault}
use Rattle.record_files.specs.Form.{Form}
use Rattle.record_files.specs.Numbers.{number_of, optional_number_of, optional_value, type_name_of, value}
use Rattle.record_files.specs.Rows.{Row, field_at}

-- its headers, without bars and with them, and its limit of rows
abbrev pub programmes_form : Form
programmes_form = record {
  file = Programmes;
  headers = codes "programme,type,quota" ∷ codes "programme,type,quota,bar" ∷ [];
  most_rows = MOST_PROGRAMMES;
}

-- the code of a row's programme
abbrev pub code_of : Row → ℕ
code_of row = value (field_at row 0)

-- the name of its score type
abbrev pub type_of : Row → List ℕ
type_of row = field_at row 1

-- its quota
abbrev pub quota_of : Row → ℕ
quota_of row = value (field_at row 2)

-- its bar: none under the first header, and none for `-`
abbrev pub bar_of : ℕ → Row → Option ℕ
bar_of zero row = None
bar_of (suc version) row = optional_value (field_at row 3)

-- names without repetition, each where it appears first
abbrev pub first_appearances : List (List ℕ) → List (List ℕ)
first_appearances [] = []
first_appearances (name ∷ names) =
    name ∷ filter (λ other. not (bytes_eq name other)) (first_appearances names)

-- the names of the score types of rows, in order of first appearance
abbrev pub types_of : List Row → List (List ℕ)
types_of rows = first_appearances (map type_of rows)

-- what is wrong with the bar of a row by itself, where the header has one
abbrev pub bar_fault : ℕ → Row → Option FileFault
bar_fault zero row = None
bar_fault (suc version) row =
    reading_fault Programmes row.0 4 (optional_number_of (field_at row 3) 1 LARGEST_RANK)

-- what is wrong with the fields of a row by themselves, from left to right
abbrev pub reading : ℕ → Row → Option FileFault
reading version row =
    first_of (reading_fault Programmes row.0 1 (number_of (field_at row 0) 1 LARGEST_CODE))
    (first_of (reading_fault Programmes row.0 2 (type_name_of (field_at row 1)))
    (first_of (reading_fault Programmes row.0 3 (number_of (field_at row 2) 0 LARGEST_QUOTA))
    (bar_fault version row)))

-- no earlier row has the row's type, and the earlier rows have as many as a file may
abbrev pub is_type_too_many : List Row → Row → Bool
is_type_too_many earlier row =
    nat_le MOST_TYPES (length (types_of earlier))
    && not (list_any (bytes_eq (type_of row)) (types_of earlier))

-- what is wrong with a row beside the earlier ones
abbrev pub meaning : List Row → Row → Option FileFault
meaning earlier row =
    first_of (repeat_fault Programmes row.0 1 (λ other. code_of row == code_of other) earlier)
    (fault_if (is_type_too_many earlier row) (fault_at Programmes row.0 2 OutOfRange))

-- what may be wrong with a programmes file
abbrev pub programmes_rules : FileRules
programmes_rules =
    record { form = programmes_form; reading = reading; meaning = λ version. meaning }

-- the first fault of a programmes file
abbrev pub programmes_fault : List ℕ → Option FileFault
programmes_fault bytes = first_fault programmes_rules bytes
