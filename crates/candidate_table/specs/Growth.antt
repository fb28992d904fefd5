-- A table that grows by a row.
use Rattle.std.specs.Prelude.{◌≡◌, ◌≤◌, ℕ, List, [], ◌∷◌, ◌++◌, All, MatchResult, None, Some, length, Option, Result, option_map}
use Rattle.place_base.specs.declared.fault.FileFault.{FileFault}
use Rattle.place_base.specs.declared.fault.FileKind.TheVariants.{Candidates as candidates}
use Rattle.place_base.specs.declared.limits.TheConstants.{MOST_ENTRIES}
use Rattle.record_files.specs.FirstFaults.{duplicate_at, first_of}
use Rattle.record_files.specs.Keys.{line_of}
use Rattle.record_files.specs.Rows.{Row}
use Rattle.candidate_table.specs.Rows.{codes_in, list_fault, number_in}
use Rattle.candidate_table.specs.Table.{Candidates, IsPreferenceList, indexes_of, table_of}
use Rattle.candidate_table.specs.declared.row.Candidate.{Candidate}
use Rattle.candidate_table.specs.declared.row.Fields.{Fields}

-- these are the fields of the row
pub record IsFieldsOf (row : Row) (fields : Fields) : Type 0 where
  pub line : fields.line ≡ row.0
  pub number : fields.number ≡ number_in row
  pub codes : fields.codes ≡ codes_in row

-- the list of these codes was found, or this is wrong with it
abbrev pub IsListFound : List ℕ → ℕ → List ℕ → Result (List ℕ) FileFault → Type 0
IsListFound programmes line codes found = MatchResult found
    (λ list. (list_fault programmes line codes ≡ None) × (list ≡ indexes_of programmes codes))
    (λ fault. list_fault programmes line codes ≡ Some fault)

-- this is what a row says of its candidate beside the programmes' codes
pub record IsCandidateOf (programmes : List ℕ) (row : Row) (candidate : Candidate) : Type 0 where
  pub line : candidate.line ≡ row.0
  pub number : candidate.number ≡ number_in row
  pub few : length (codes_in row) ≤ MOST_ENTRIES
  pub list : IsListFound programmes row.0 (codes_in row) candidate.list

-- what is wrong with fields beside the programmes' codes and the table
abbrev pub clash : List ℕ → Candidates → Fields → Option FileFault
clash programmes table fields =
    first_of
    (option_map (duplicate_at candidates fields.line 1) (line_of table.numbers fields.number))
    (list_fault programmes fields.line fields.codes)

-- the table with one more candidate of this number and line, who has this list
abbrev pub with_candidate : Candidates → ℕ → ℕ → List ℕ → Candidates
with_candidate table number line list = record {
  numbers = table.numbers ++ (number, line) ∷ [];
  lists = table.lists ++ list ∷ [];
}

-- the table is that of these rows, and its lists are preference lists
pub record HasRows (programmes : List ℕ) (rows : List Row) (table : Candidates) : Type 0 where
  pub is_table : table ≡ table_of programmes rows
  pub lists : All (IsPreferenceList (length programmes)) table.lists
