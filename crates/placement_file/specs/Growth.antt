-- A placement that grows by a row.
use Rattle.std.specs.Prelude.{◌≡◌, ℕ, List, ◌==◌, find, is_none, map, nat_eq, position, Option, None, Some, option_map}
use Rattle.std.specs.List.{IsDistinct}
use Rattle.record_files.specs.Rows.{Row}
use Rattle.place_base.specs.declared.fault.FaultKind.TheVariants.{UnknownCandidate}
use Rattle.place_base.specs.declared.fault.FileFault.{FileFault}
use Rattle.place_base.specs.declared.fault.FileKind.TheVariants.{Placement}
use Rattle.record_files.specs.FirstFaults.{duplicate_at, fault_at, fault_if, first_of}
use Rattle.placement_file.specs.Rows.{code_in, number_in, unknown_fault}
use Rattle.placement_file.specs.Table.{programme_in}
use Rattle.placement_file.specs.declared.row.Fields.{Fields}
use Rattle.placement_file.specs.declared.row.Held.{Held}

-- these are the fields of the row
pub record IsFieldsOf (row : Row) (fields : Fields) : Type 0 where
  pub line : fields.line ≡ row.0
  pub number : fields.number ≡ number_in row
  pub code : fields.code ≡ code_in row

-- what a row gives its candidate
abbrev pub held_of : List ℕ → Row → Held
held_of programmes row = record { line = row.0; programme = programme_in programmes row }

-- what the rows give a candidate
abbrev pub entry_in : List ℕ → List Row → ℕ → Option Held
entry_in programmes rows number =
    option_map (held_of programmes) (find (λ row. number == number_in row) rows)

-- what is wrong with fields beside the programmes' codes, the candidates' numbers and what an
-- earlier row gives the candidate
abbrev pub clash : List ℕ → List ℕ → Option Held → Fields → Option FileFault
clash programmes candidates entry fields =
    first_of
    (fault_if (is_none (position (nat_eq fields.number) candidates))
    (fault_at Placement fields.line 1 UnknownCandidate))
    (first_of (option_map (λ held. duplicate_at Placement fields.line 1 held.line) entry)
    (unknown_fault programmes fields.line fields.code))

-- the programme of what a row gives, none for nothing
abbrev pub programme_held : Option Held → Option ℕ
programme_held None = None
programme_held (Some held) = held.programme

-- the entries of these rows, one for each of the candidates, who are distinct
pub record HasRows (programmes candidates : List ℕ) (rows : List Row) (entries : List (Option Held))
    : Type 0 where
  pub distinct : IsDistinct nat_eq candidates
  pub entries_are : entries ≡ map (entry_in programmes rows) candidates
