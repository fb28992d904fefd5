-- The placement that a file holds.
use Rattle.std.specs.Prelude.{ℕ, List, ◌==◌, find, map, nat_eq, option_and_then, position, Option}
use Rattle.record_files.specs.Rows.{Row, data_rows}
use Rattle.placement_file.specs.Rows.{code_in, number_in}

-- the programme of a code, as an index among the programmes' codes
abbrev pub programme_of : List ℕ → Option ℕ → Option ℕ
programme_of programmes code = option_and_then (λ c. position (nat_eq c) programmes) code

-- the programme of a row
abbrev pub programme_in : List ℕ → Row → Option ℕ
programme_in programmes row = programme_of programmes (code_in row)

-- what a candidate holds: the programme of the row with the candidate's number; none without a row
abbrev pub held_in : List ℕ → List Row → ℕ → Option ℕ
held_in programmes rows number =
    option_and_then (programme_in programmes) (find (λ row. number == number_in row) rows)

-- the placement of data rows, a candidate after the other
abbrev pub placement_of : List ℕ → List ℕ → List Row → List (Option ℕ)
placement_of programmes candidates rows = map (held_in programmes rows) candidates

-- the placement of a file
abbrev pub placement_in : List ℕ → List ℕ → List ℕ → List (Option ℕ)
placement_in programmes candidates bytes = placement_of programmes candidates (data_rows bytes)
