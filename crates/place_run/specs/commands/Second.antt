-- The answer of `second`, and what is promised of it.
use Rattle.std.specs.Prelude.{◌≡◌, ◌≤◌, ℕ, Bool, List, length, Option, Some, None}
use Rattle.place_base.specs.declared.fault.FileKind.TheVariants as file
use Rattle.market.specs.Comparisons.{IsWorstStable}
use Rattle.market.specs.Mechanism.{mechanism_placement}
use Rattle.market.specs.Problems.{IsValid, Problem}
use Rattle.place_edges.specs.Shelf.{file_limit}
use Rattle.programme_table.specs.Table.{codes_of}
use Rattle.candidate_table.specs.Table.{numbers_of}
use Rattle.placement_file.specs.Texts.{placement_text}
use Rattle.run_frame.specs.Files.{Reads}
use Rattle.second_placement.specs.Registrations.{registered_in, registrations_fault}
use Rattle.second_placement.specs.SeatsLeft.{FitsBeside, second_problem}
use Rattle.stability_audit.specs.FirstVerdicts.{verdict_of}
use Rattle.stability_audit.specs.declared.verdict.Verdict.{Verdict}
use Rattle.stability_audit.specs.declared.verdict.Verdict.TheVariants.{Stable, OverQuota, NotAcceptable, Blocking}
use Rattle.place_run.specs.Answers.{Answer, done}
use Rattle.place_run.specs.Tables.{ThreeFiles, codes_in, numbers_in, problem_of, tables_in}
use Rattle.place_run.specs.commands.Audit.{Audited, IsAudit, audit_of, placement_beside}
use Rattle.place_run.specs.declared.status.Ending.TheVariants.{Done, AuditNo}

-- three tables with a placement beside them, and for each candidate whether it has registered
pub record Registered : Type 0 where
  pub audited : Audited
  pub registered : List Bool

-- the market of the seats that the registered candidates leave
abbrev pub left_of : Registered → Problem
left_of given =
    second_problem (problem_of given.audited.tables) given.audited.held given.registered

-- the text of the mechanism's placement in that market
unfoldable pub printed_second : Registered → List ℕ
printed_second given =
    placement_text (codes_of given.audited.tables.programmes.rows)
    (numbers_of given.audited.tables.candidates.numbers) (mechanism_placement (left_of given))

-- this text where the first placement is stable, and else the answer of its audit
abbrev pub second_by : Verdict → List ℕ → Answer → Answer
second_by Stable text audit = done text
second_by (OverQuota p) text audit = audit
second_by (NotAcceptable i) text audit = audit
second_by (Blocking i p) text audit = audit

-- the answer: the second placement, or the verdict on the first one
unfoldable pub second_of : Registered → Answer
second_of given =
    second_by (verdict_of (problem_of given.audited.tables) given.audited.held)
    (printed_second given) (audit_of given.audited)

-- for each candidate of three files whether a row of a registrations file names it
abbrev pub registered_beside : ThreeFiles → List ℕ → List Bool
registered_beside three bytes = registered_in (numbers_in three) bytes

-- A text is that of the second placement, behind this first one in the market of three files: the
-- mechanism's placement in the market of the seats left. It is stable there, and in every stable
-- placement there each candidate holds the same programme or one listed higher; beside the seats
-- that are kept no quota is exceeded, and nobody who held a programme gets one.
pub record IsSecondText (three : ThreeFiles) (held : List (Option ℕ)) (registered : List Bool)
    (text : List ℕ) : Type 0 where
  pub market : IsValid (second_problem (problem_of (tables_in three)) held registered)
  pub worst : IsWorstStable (second_problem (problem_of (tables_in three)) held registered)
      (mechanism_placement (second_problem (problem_of (tables_in three)) held registered))
  pub beside : FitsBeside (problem_of (tables_in three)) held registered
      (mechanism_placement (second_problem (problem_of (tables_in three)) held registered))
  pub printed : text ≡ placement_text (codes_in three) (numbers_in three)
      (mechanism_placement (second_problem (problem_of (tables_in three)) held registered))

-- An answer is that of `second` to five files without a fault. The placement file is audited as by
-- `audit`, and the run ends as that audit does: with its verdict where the placement is not stable,
-- and else with the second placement behind it.
pub record IsSecond (reads : Reads) (answer : Answer) : Type 0 where
  pub audit_answer : Answer
  pub audit : IsAudit reads audit_answer
  pub registrations : List ℕ
  pub registrations_read : reads file.Registrations ≡ Some registrations
  pub registrations_few : length registrations ≤ file_limit
  pub registrations_no_fault : registrations_fault (numbers_in audit.three) registrations ≡ None
  pub ending : answer.ending ≡ audit_answer.ending
  pub unstable : audit_answer.ending ≡ AuditNo → answer.text ≡ audit_answer.text
  pub placed : audit_answer.ending ≡ Done
      → IsSecondText audit.three (placement_beside audit.three audit.bytes)
      (registered_beside audit.three registrations) answer.text
