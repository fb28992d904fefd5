-- The answer of `audit`, and what is promised of it.
use Rattle.std.specs.Prelude.{◌≡◌, ◌≤◌, ◌↔◌, ℕ, List, [], ◌∷◌, codes, decimal, length, slice_index, Option, Some, None}
use Rattle.place_base.specs.declared.fault.FileFault.{FileFault}
use Rattle.place_base.specs.declared.fault.FileKind.TheVariants as file
use Rattle.market.specs.Stability.{IsStable}
use Rattle.place_edges.specs.Shelf.{file_limit}
use Rattle.programme_table.specs.Table.{codes_of}
use Rattle.candidate_table.specs.Table.{numbers_of}
use Rattle.placement_file.specs.Rows.{placement_fault}
use Rattle.placement_file.specs.Table.{placement_in}
use Rattle.record_files.specs.Texts.{row_text}
use Rattle.run_frame.specs.Files.{Reads}
use Rattle.stability_audit.specs.FirstVerdicts.{verdict_of}
use Rattle.stability_audit.specs.Verdicts.{IsVerdict}
use Rattle.stability_audit.specs.declared.verdict.Verdict.{Verdict}
use Rattle.stability_audit.specs.declared.verdict.Verdict.TheVariants.{Stable, OverQuota, NotAcceptable, Blocking}
use Rattle.place_run.specs.Answers.{Answer}
use Rattle.place_run.specs.Tables.{HasNoFault, Tables, ThreeFiles, codes_in, numbers_in, problem_of, tables_in}
use Rattle.place_run.specs.commands.Place.{AreThree}
use Rattle.place_run.specs.declared.status.Ending.{Ending}
use Rattle.place_run.specs.declared.status.Ending.TheVariants.{Done, AuditNo}

-- three tables, and the placement that a file holds beside them
pub record Audited : Type 0 where
  pub tables : Tables
  pub held : List (Option ℕ)

-- the row of a verdict, beside the programmes' codes and the candidates' numbers
abbrev pub verdict_row : List ℕ → List ℕ → Verdict → List ℕ
verdict_row programmes candidates Stable = row_text (codes "STABLE" ∷ [])
verdict_row programmes candidates (OverQuota p) =
    row_text (codes "OVERQUOTA" ∷ decimal (slice_index programmes p) ∷ [])
verdict_row programmes candidates (NotAcceptable i) =
    row_text (codes "NOTACCEPTABLE" ∷ decimal (slice_index candidates i) ∷ [])
verdict_row programmes candidates (Blocking i p) =
    row_text (codes "BLOCKING" ∷ decimal (slice_index candidates i)
    ∷ decimal (slice_index programmes p) ∷ [])

-- how a run ends with a verdict
abbrev pub verdict_ending : Verdict → Ending
verdict_ending Stable = Done
verdict_ending (OverQuota p) = AuditNo
verdict_ending (NotAcceptable i) = AuditNo
verdict_ending (Blocking i p) = AuditNo

-- the answer with a verdict
abbrev pub verdict_answer : List ℕ → List ℕ → Verdict → Answer
verdict_answer programmes candidates verdict =
    record {
      ending = verdict_ending verdict;
      text = verdict_row programmes candidates verdict;
    }

-- the answer with the verdict on a placement in the market of three tables
unfoldable pub audit_of : Audited → Answer
audit_of audited =
    verdict_answer (codes_of audited.tables.programmes.rows)
    (numbers_of audited.tables.candidates.numbers)
    (verdict_of (problem_of audited.tables) audited.held)

-- what the rows of a placement file give the candidates of three files
abbrev pub placement_beside : ThreeFiles → List ℕ → List (Option ℕ)
placement_beside three bytes = placement_in (codes_in three) (numbers_in three) bytes

-- the first fault of a placement file beside three files
abbrev pub placement_fault_beside : ThreeFiles → List ℕ → Option FileFault
placement_fault_beside three bytes = placement_fault (codes_in three) (numbers_in three) bytes

-- An answer is that of an audit of a placement file beside three files, all without a fault. It
-- prints the first verdict on what the file holds in the market of the three, and the run ends well
-- exactly where that is stable there.
pub record IsAudit (reads : Reads) (answer : Answer) : Type 0 where
  pub three : ThreeFiles
  pub read : AreThree reads three
  pub no_fault : HasNoFault three
  pub bytes : List ℕ
  pub placement_read : reads file.Placement ≡ Some bytes
  pub placement_few : length bytes ≤ file_limit
  pub placement_no_fault : placement_fault_beside three bytes ≡ None
  pub verdict : Verdict
  pub first : IsVerdict (problem_of (tables_in three)) (placement_beside three bytes) verdict
  pub stable : (answer.ending ≡ Done)
      ↔ IsStable (problem_of (tables_in three)) (placement_beside three bytes)
  pub printed : answer.text ≡ verdict_row (codes_in three) (numbers_in three) verdict
