-- The answer of `sweep`, and what is promised of it.
use Rattle.std.specs.Prelude.{◌≡◌, ℕ, List, [], ◌∷◌, ◌++◌, codes, decimal, nat_eq, position, Option, Some, None, Result, Ok, Err}
use Rattle.std.specs.List.{flat_map}
use Rattle.market.specs.Problems.{IsValid}
use Rattle.programme_table.specs.Table.{codes_of}
use Rattle.quota_sweep.specs.Sweeps.{AreWorstStable, HurtsNobody, sweep_rows}
use Rattle.quota_sweep.specs.declared.row.SweepRow.{SweepRow}
use Rattle.record_files.specs.Texts.{row_text}
use Rattle.run_frame.specs.Files.{Reads}
use Rattle.run_frame.specs.declared.stop.Stop.{Stop}
use Rattle.run_frame.specs.declared.stop.Stop.TheVariants.{Refused}
use Rattle.place_run.specs.Answers.{Answer, done}
use Rattle.place_run.specs.Tables.{HasNoFault, Tables, ThreeFiles, codes_in, problem_of, tables_in}
use Rattle.place_run.specs.commands.Base.{rank_text}
use Rattle.place_run.specs.commands.Place.{AreThree}
use Rattle.place_run.specs.declared.status.Refusal.{Refusal}
use Rattle.place_run.specs.declared.status.Refusal.TheVariants.{NoProgramme}

-- the header of the rows of quotas
abbrev pub sweep_header : List ℕ
sweep_header = row_text (codes "quota" ∷ codes "held" ∷ codes "base" ∷ codes "changed" ∷ [])

-- the row of a quota: the quota, how many hold the programme, its base rank, and how many
-- candidates hold something else than with the quota before
abbrev pub quota_row : SweepRow → List ℕ
quota_row row =
    row_text (decimal row.quota ∷ decimal row.held ∷ rank_text row.base ∷ decimal row.changed ∷ [])

-- the text of rows of quotas: a header, and the rows
unfoldable pub sweep_text : List SweepRow → List ℕ
sweep_text rows = sweep_header ++ flat_map quota_row rows

-- the rows of a programme's quotas from one to another in the market of three tables
unfoldable pub sweep_of : Tables → ℕ → ℕ → ℕ → List ℕ
sweep_of tables p low high = sweep_text (sweep_rows (problem_of tables) p low high)

-- the index of the programme with a code, none where no programme has it
abbrev pub programme_with : ℕ → List ℕ → Option ℕ
programme_with code programmes = position (nat_eq code) programmes

-- the rows of the programme that was found, or that none has the code
abbrev pub rows_or_none : ℕ → ℕ → ℕ → Tables → Option ℕ → Result Answer (Stop Refusal)
rows_or_none code low high tables None = Err (Refused (NoProgramme code))
rows_or_none code low high tables (Some p) = Ok (done (sweep_of tables p low high))

-- what a sweep says of three tables: the rows of the programme with this code, or that none has it
abbrev pub swept : ℕ → ℕ → ℕ → Tables → Result Answer (Stop Refusal)
swept code low high tables =
    rows_or_none code low high tables (programme_with code (codes_of tables.programmes.rows))

-- A text is that of the quotas from one to another of the programme with this code, in the market
-- of three files without a fault. With each quota what the mechanism gives is stable, and in every
-- stable placement there each candidate holds the same programme or one listed higher. With a
-- larger quota each candidate holds the same programme or one listed higher.
pub record IsSweepText (code low high : ℕ) (reads : Reads) (text : List ℕ) : Type 0 where
  pub three : ThreeFiles
  pub read : AreThree reads three
  pub no_fault : HasNoFault three
  pub market : IsValid (problem_of (tables_in three))
  pub programme : ℕ
  pub coded : programme_with code (codes_in three) ≡ Some programme
  pub worst : AreWorstStable (problem_of (tables_in three)) programme low high
  pub hurts_nobody : HurtsNobody (problem_of (tables_in three)) programme low high
  pub printed : text ≡ sweep_text (sweep_rows (problem_of (tables_in three)) programme low high)

-- three files were read and have no fault, and none of their programmes has this code
pub record IsWithoutProgramme (code : ℕ) (reads : Reads) : Type 0 where
  pub three : ThreeFiles
  pub read : AreThree reads three
  pub no_fault : HasNoFault three
  pub uncoded : programme_with code (codes_in three) ≡ None
