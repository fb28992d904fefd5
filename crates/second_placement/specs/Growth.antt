-- Registrations that grow by a row.
use Rattle.std.specs.Prelude.{◌≡◌, ℕ, List, ◌==◌, find, map, nat_eq, Option, option_map}
use Rattle.std.specs.List.{IsDistinct}
use Rattle.record_files.specs.Rows.{Row}
use Rattle.placement_file.specs.Requests.{candidate_in}
use Rattle.second_placement.specs.declared.registrations.Fields.{Fields}

-- these are the fields of the row
pub record IsFieldsOf (row : Row) (fields : Fields) : Type 0 where
  pub line : fields.line ≡ row.0
  pub candidate : fields.candidate ≡ candidate_in row

-- the line of the first of these rows that names the candidate
abbrev pub line_in : List Row → ℕ → Option ℕ
line_in rows number = option_map (λ row. row.0) (find (λ row. number == candidate_in row) rows)

-- the lines of these rows, by candidate; the candidates are distinct
pub record HasLines (candidates : List ℕ) (rows : List Row) (lines : List (Option ℕ)) : Type 0 where
  pub distinct : IsDistinct nat_eq candidates
  pub lines_are : lines ≡ map (line_in rows) candidates
