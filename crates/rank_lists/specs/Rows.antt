-- The ranks file: what its rows hold, and what is wrong with them.
use Rattle.std.specs.Prelude.{ℕ, List, [], Bool, ◌&&◌, ◌==◌, bytes_eq, codes, slice_index_or, Option, None}
use Rattle.place_base.specs.declared.fault.FileFault.{FileFault}
use Rattle.place_base.specs.declared.fault.FileKind.TheVariants.{Ranks}
use Rattle.place_base.specs.declared.limits.TheConstants.{LARGEST_NUMBER, LARGEST_RANK, MOST_RANKS}
use Rattle.record_files.specs.FirstFaults.{FileRules, first_of, reading_fault, repeat_fault, first_fault}
use Rattle.record_files.specs.Form.{Form, one_header}
use Rattle.record_files.specs.Numbers.{number_of, type_name_of, value}
use Rattle.record_files.specs.Rows.{Row, field_at}

-- its header and its limit of rows
abbrev pub ranks_form : Form
ranks_form = one_header Ranks (codes "candidate,type,rank") MOST_RANKS

-- the number of the candidate in a row
abbrev pub candidate_in : Row → ℕ
candidate_in row = value (field_at row 0)

-- the name of the type in a row
abbrev pub type_in : Row → List ℕ
type_in row = field_at row 1

-- the rank in a row
abbrev pub rank_in : Row → ℕ
rank_in row = value (field_at row 2)

-- what is wrong with the fields of a row by themselves, from left to right
abbrev pub reading : Row → Option FileFault
reading row =
    first_of (reading_fault Ranks row.0 1 (number_of (field_at row 0) 1 LARGEST_NUMBER))
    (first_of (reading_fault Ranks row.0 2 (type_name_of (field_at row 1)))
    (reading_fault Ranks row.0 3 (number_of (field_at row 2) 1 LARGEST_RANK)))

-- two rows rank the same candidate in the same type
abbrev pub same_candidate : Row → Row → Bool
same_candidate row other =
    (candidate_in row == candidate_in other) && bytes_eq (type_in row) (type_in other)

-- two rows give the same rank in the same type
abbrev pub same_rank : Row → Row → Bool
same_rank row other = (rank_in row == rank_in other) && bytes_eq (type_in row) (type_in other)

-- what is wrong with a row beside the earlier ones: an earlier row ranks the candidate in the type,
-- or gives the rank in the type
abbrev pub meaning : List Row → Row → Option FileFault
meaning earlier row =
    first_of (repeat_fault Ranks row.0 2 (same_candidate row) earlier)
    (repeat_fault Ranks row.0 3 (same_rank row) earlier)

-- what may be wrong with a ranks file
abbrev pub ranks_rules : FileRules
ranks_rules =
    record { form = ranks_form; reading = λ version. reading; meaning = λ version. meaning }

-- the first fault of a ranks file
abbrev pub ranks_fault : List ℕ → Option FileFault
ranks_fault bytes = first_fault ranks_rules bytes

-- what may be wrong with its rows by themselves, where none means anything beside the earlier ones
abbrev pub own_rules : FileRules
own_rules = record {
  form = ranks_form;
  reading = λ version. reading;
  meaning = λ version earlier row. None;
}

-- the data row at an index
abbrev pub row_at : List Row → ℕ → Row
row_at rows index = slice_index_or rows index (0, [])
