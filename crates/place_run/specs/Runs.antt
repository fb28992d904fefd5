-- What may be said of a run: the promise of the top call.
use Rattle.std.specs.Prelude.{◌≡◌, ◌⊎◌, ℕ, List, IfOk, IfSome, IsErrOf, Option, None, Some, Result, Ok}
use Rattle.command_words.specs.Words.{command_of}
use Rattle.command_words.specs.declared.words.Command.{Command}
use Rattle.command_words.specs.declared.words.Command.TheVariants.{Place, Base, Reasons, Audit, Fixed, Sweep, Second, Make}
use Rattle.command_words.specs.declared.words.WordsFault.{WordsFault}
use Rattle.market.specs.Mechanism.{mechanism_placement}
use Rattle.quota_sweep.specs.Sweeps.{sweep_rows}
use Rattle.place_edges.specs.Shelf.{Files}
use Rattle.place_edges.specs.Sink.{Appended}
use Rattle.run_frame.specs.Files.{AreReadOnce, Moment, Reads}
use Rattle.run_frame.specs.Plans.{AreRead, files_read, first_file}
use Rattle.run_frame.specs.Runs as frame
use Rattle.run_frame.specs.Runs.{Endings, IsFinished, IsWhole}
use Rattle.run_frame.specs.declared.stop.FileStop.TheVariants as file
use Rattle.place_run.specs.Answers.{Answer}
use Rattle.place_run.specs.Says.{KeepsPromise, named, plan}
use Rattle.place_run.specs.Statuses.{ended, status_of}
use Rattle.place_run.specs.Tables.{HasNoFault, ThreeFiles, codes_in, numbers_in, problem_of, tables_in}
use Rattle.placement_file.specs.Texts.{placement_text}
use Rattle.place_run.specs.commands.Audit.{IsAudit}
use Rattle.place_run.specs.commands.Base.{IsBaseText}
use Rattle.place_run.specs.commands.Fixed.{IsFixedText}
use Rattle.place_run.specs.commands.Make.{IsSummaryOf}
use Rattle.place_run.specs.commands.Place.{AreThree, IsWorstStableText}
use Rattle.place_run.specs.commands.Reasons.{IsReasonsText}
use Rattle.place_run.specs.commands.Second.{IsSecond}
use Rattle.place_run.specs.commands.Sweep.{IsSweepText, IsWithoutProgramme, programme_with, sweep_text}
use Rattle.place_run.specs.declared.status.Ending.{Ending}
use Rattle.place_run.specs.declared.status.Refusal.{Refusal}
use Rattle.place_run.specs.declared.status.Refusal.TheVariants.{Words}
use Rattle.place_run.specs.declared.status.Status.{Status}
use Rattle.place_run.specs.declared.status.Status.TheVariants as ends
use Rattle.run_frame.specs.declared.stop.Stop.{Stop}
use Rattle.run_frame.specs.declared.stop.Stop.TheVariants.{File}

-- the text of an answer, and the status of each end
abbrev pub endings : Endings Answer Refusal Status
endings = record {
  text = λ answer. answer.text;
  done = λ answer. ended answer.ending;
  stopped = status_of;
  write_fault = ends.WriteFault;
}

-- The answer to a command meets what is said over the bytes that were read, and keeps the command's
-- promise.
pub record IsAnswering (told : Option Files) (words : List (List ℕ))
    (command : Result Command WordsFault) (answer : Result Answer (Stop Refusal))
    (before now : Moment) : Type 0 where
  pub reading : AreRead told (named words) (plan command) answer before now
  pub promise : IfOk answer (KeepsPromise command reading.reads)

-- where the words ask for no file the shelf is as it was, and there is no read fault
abbrev pub ReadsNothing : {H T : Type 0} → Result Command WordsFault → Result T (Stop Refusal)
    → H → H → Type 0
ReadsNothing command result old new =
    first_file (plan command) ≡ None → (new ≡ old) × (IsErrOf result (File file.ReadFault) → ⊥)

-- The run: there is an answer to the words, and it was written.
pub record IsAnsweredRun {K : Type 0} (written : K → Option (List ℕ)) (faults : K → ℕ)
    (told : Option Files) (words : List (List ℕ)) (status : Status) (old new : K)
    (before now : Moment) : Type 0 where
  pub answer : Result Answer (Stop Refusal)
  pub answers : IsAnswering told words (command_of words) answer before now
  pub finished : IsFinished endings written faults answer status old new

-- these bytes were read: they are those held, if that is told, and each file of the command was
-- read once
abbrev pub AreFilesRead : Option Files → List (List ℕ) → Reads → ℕ → ℕ → Type 0
AreFilesRead told words reads before now =
    AreReadOnce told (named words) (files_read (plan (command_of words))) reads before now

-- where the words ask for this, by any number of workers, and the run is done, such a text of the
-- files that were read was appended, and nothing else
abbrev pub PrintsText : (ℕ → Command) → (Reads → List ℕ → Type 0) → Option Files → List (List ℕ)
    → Status → Option (List ℕ) → Option (List ℕ) → ℕ → ℕ → Type 0
PrintsText asked IsText told words status old new before now =
    (workers : ℕ) → command_of words ≡ Ok (asked workers) → status ≡ ends.Done
    → (reads : Reads) × AreFilesRead told words reads before now
    × (text : List ℕ) × IsText reads text × Appended old new text

-- `place` prints the worst stable placement
abbrev pub PrintsWorstStable : Option Files → List (List ℕ) → Status
    → Option (List ℕ) → Option (List ℕ) → ℕ → ℕ → Type 0
PrintsWorstStable = PrintsText Place IsWorstStableText

-- `base` prints the base ranks of that placement, `reasons` the reasons in it, and `fixed` what
-- every stable placement shares with it
pub record PrintsReports (told : Option Files) (words : List (List ℕ)) (status : Status)
    (old new : Option (List ℕ)) (before now : ℕ) : Type 0 where
  pub bases : PrintsText Base IsBaseText told words status old new before now
  pub reasons : PrintsText Reasons IsReasonsText told words status old new before now
  pub fixed : PrintsText Fixed IsFixedText told words status old new before now

-- where the words ask for this, by any number of workers, and the run ends with a text, this is
-- that of such an answer to the files that were read, and nothing else was appended
abbrev pub PrintsAnswer : (ℕ → Command) → (Reads → Answer → Type 0) → Option Files
    → List (List ℕ) → Status → Option (List ℕ) → Option (List ℕ) → ℕ → ℕ → Type 0
PrintsAnswer asked IsAnswer told words status old new before now =
    (workers : ℕ) → command_of words ≡ Ok (asked workers)
    → (ending : Ending) → status ≡ ended ending
    → (reads : Reads) × AreFilesRead told words reads before now
    × (answer : Answer) × (answer.ending ≡ ending) × IsAnswer reads answer
    × Appended old new answer.text

-- `audit` prints its verdict
abbrev pub PrintsVerdict : Option Files → List (List ℕ) → Status → Option (List ℕ)
    → Option (List ℕ) → ℕ → ℕ → Type 0
PrintsVerdict = PrintsAnswer Audit IsAudit

-- `second` prints the second placement, or the verdict where the first one is not stable
abbrev pub PrintsSecond : Option Files → List (List ℕ) → Status → Option (List ℕ)
    → Option (List ℕ) → ℕ → ℕ → Type 0
PrintsSecond = PrintsAnswer Second IsSecond

-- Where the words are `sweep` and the run is done, the rows of the quotas of the programme with this
-- code were appended, and nothing else. Only a sweep says that no programme has a code, and only
-- where none of the files that were read has a fault.
pub record PrintsSweep (told : Option Files) (words : List (List ℕ)) (status : Status)
    (old new : Option (List ℕ)) (before now : ℕ) : Type 0 where
  pub rows : (code low high : ℕ) → PrintsText (Sweep code low high) (IsSweepText code low high)
      told words status old new before now
  pub none : (code : ℕ) → status ≡ ends.NoProgramme code
      → (low high workers : ℕ) × (command_of words ≡ Ok (Sweep code low high workers))
      × (reads : Reads) × AreFilesRead told words reads before now × IsWithoutProgramme code reads

-- where the words are `make` and the run is done, the summary of the market of these numbers was
-- appended, and nothing else
abbrev pub PrintsSummary : List (List ℕ) → Status → Option (List ℕ) → Option (List ℕ) → Type 0
PrintsSummary words status old new =
    (seed candidates programmes types workers : ℕ)
    → command_of words ≡ Ok (Make seed candidates programmes types workers) → status ≡ ends.Done
    → (text : List ℕ) × IsSummaryOf seed candidates programmes types text × Appended old new text

-- where the words ask for the placement of three held files without a fault, its text was appended
-- whole, or memory was refused
abbrev pub PlacesWhole : Option Files → List (List ℕ) → Status
    → Option (List ℕ) → Option (List ℕ) → Type 0
PlacesWhole told words status old new = IfSome told (λ files.
    (three : ThreeFiles) (workers : ℕ) → command_of words ≡ Ok (Place workers)
    → AreThree (λ kind. files (named words kind)) three → HasNoFault three
    → (status ≡ ends.Memory)
    ⊎ ((status ≡ ends.Done)
    × Appended old new (placement_text (codes_in three) (numbers_in three)
    (mechanism_placement (problem_of (tables_in three))))))

-- the rows of the programme that was found were appended whole, or the run told that no programme
-- has the code
abbrev pub SweepsFound : ThreeFiles → ℕ → ℕ → ℕ → Status → Option (List ℕ) → Option (List ℕ)
    → Option ℕ → Type 0
SweepsFound three code low high status old new (Some p) =
    (status ≡ ends.Done)
    × Appended old new (sweep_text (sweep_rows (problem_of (tables_in three)) p low high))
SweepsFound three code low high status old new None = status ≡ ends.NoProgramme code

-- where the words ask for the quotas of a programme of three held files without a fault, they were
-- swept whole or the run told that there is no such programme, or memory was refused
abbrev pub SweepsWhole : Option Files → List (List ℕ) → Status
    → Option (List ℕ) → Option (List ℕ) → Type 0
SweepsWhole told words status old new = IfSome told (λ files.
    (three : ThreeFiles) (code low high workers : ℕ)
    → command_of words ≡ Ok (Sweep code low high workers)
    → AreThree (λ kind. files (named words kind)) three → HasNoFault three
    → (status ≡ ends.Memory)
    ⊎ SweepsFound three code low high status old new (programme_with code (codes_in three)))

-- All that is said over the bytes that were read is done: held files without a fault are placed, and
-- the quotas of one of their programmes are swept.
pub record IsComplete (told : Option Files) (words : List (List ℕ)) (status : Status)
    (old new : Option (List ℕ)) (before now : Moment) : Type 0 where
  pub whole : IsWhole endings told (named words) (plan (command_of words)) status old new before now
  pub places : PlacesWhole told words status old new
  pub sweeps : SweepsWhole told words status old new

-- a run that ends with its text has no line
abbrev pub HasNoLine : Status → Type 0
HasNoLine status = (status ≡ ends.Done) ⊎ (status ≡ ends.AuditNo)

-- the words were refused
abbrev pub IsWordsRefusal : Status → Type 0
IsWordsRefusal status = (refused : WordsFault) × (status ≡ ends.Words refused)

-- the same of a run, by its status
abbrev pub RunsWithoutFile : {H : Type 0} → Result Command WordsFault → Status → H → H → Type 0
RunsWithoutFile command status old new =
    first_file (plan command) ≡ None → (new ≡ old) × (status ≡ ends.ReadFault → ⊥)

-- Each refusal has its cause: words by the grammar, and the others by the counts. Only `audit` and
-- `second` say that a placement is not stable.
pub record HasStatusCause (command : Result Command WordsFault) (status : Status)
    (before now : Moment) (out_before out_now : ℕ) : Type 0 where
  pub refusal : frame.HasStatusCause Words endings command status before now out_before out_now
  pub unstable : status ≡ ends.AuditNo
      → (workers : ℕ) × ((command ≡ Ok (Audit workers)) ⊎ (command ≡ Ok (Second workers)))

-- after a refusal the sink is as it was
abbrev pub LeavesSink : {K : Type 0} → (K → Option (List ℕ)) → (K → ℕ) → Status → K → K → Type 0
LeavesSink written faults status old new =
    frame.LeavesSink status_of written faults status old new
