-- What may be said of a run of the desk: the promise of the top call.
use Rattle.std.specs.Prelude.{◌≡◌, ◌≤◌, ◌⊎◌, ℕ, List, length, IfSome, Option, Some, None, Result, Ok}
use Rattle.place_base.specs.declared.fault.FileKind.TheVariants as file
use Rattle.place_edges.specs.Shelf.{Files, file_limit}
use Rattle.place_edges.specs.Sink.{Appended}
use Rattle.placement_file.specs.Requests.{requests_fault, requests_in}
use Rattle.placement_file.specs.SeatLists.{seats_fault, seats_in}
use Rattle.run_frame.specs.Files.{AreReadOnce, Moment, Reads}
use Rattle.run_frame.specs.Lines.{IsNoted}
use Rattle.run_frame.specs.Plans.{AreRead, files_read}
use Rattle.run_frame.specs.Runs.{Endings, IsFinished, IsWhole}
use Rattle.registration_desk.specs.Reports.{DeskReport, desk_numbers, registered_text}
use Rattle.registration_desk.specs.Says.{named, numbers_said, plan}
use Rattle.registration_desk.specs.Statuses.{numbers_line, status_line, status_of}
use Rattle.registration_desk.specs.Words.{clerks_of}
use Rattle.registration_desk.specs.declared.status.DeskStatus.{DeskStatus}
use Rattle.registration_desk.specs.declared.status.DeskStatus.TheVariants as ends
use Rattle.run_frame.specs.declared.stop.Stop.{Stop}
use Rattle.registration_desk.specs.declared.words.DeskWords.{DeskWords}

-- the report that the words ask for meets what is said over the bytes that were read
abbrev pub IsAnswering : Option Files → List (List ℕ) → Result ℕ DeskWords
    → Result DeskReport (Stop DeskWords) → Moment → Moment → Type 0
IsAnswering told words clerks answer before now =
    AreRead told (named words) (plan clerks) answer before now

-- the text of a report, and the status of each end
abbrev pub endings : Endings DeskReport DeskWords DeskStatus
endings = record {
  text = λ report. report.text;
  done = λ report. ends.Done;
  stopped = status_of;
  write_fault = ends.WriteFault;
}

-- The run: there is a report, or a stop, that the words come to; it was written, and the status's
-- line was noted.
pub record IsDeskRun {K N : Type 0} (written : K → Option (List ℕ)) (faults : K → ℕ)
    (noted : N → Option (List ℕ)) (note_faults : N → ℕ)
    (told : Option Files) (words : List (List ℕ)) (status : DeskStatus) (old new : K)
    (notes_old notes_new : N) (before now : Moment) : Type 0 where
  pub answer : Result DeskReport (Stop DeskWords)
  pub answers : IsAnswering told words (clerks_of words) answer before now
  pub finished : IsFinished endings written faults answer status old new
  pub line : IsNoted (status_line (numbers_said answer) status) (noted notes_old)
      (noted notes_new) (note_faults notes_old) (note_faults notes_new)

-- the bytes of the two files
pub record TwoFiles : Type 0 where
  pub placement : List ℕ
  pub requests : List ℕ

-- these two files were read
pub record AreTwo (reads : Reads) (two : TwoFiles) : Type 0 where
  pub placement : reads file.Placement ≡ Some two.placement
  pub requests : reads file.Registrations ≡ Some two.requests

-- neither of the files has more than 2^30 bytes, and neither has a fault
pub record HasNoFault (two : TwoFiles) : Type 0 where
  pub placement_few : length two.placement ≤ file_limit
  pub requests_few : length two.requests ≤ file_limit
  pub placement : seats_fault two.placement ≡ None
  pub requests : requests_fault two.requests ≡ None

-- the text of two files: a row for each placed candidate whom a request names
abbrev pub text_in : TwoFiles → List ℕ
text_in two = registered_text (seats_in two.placement) (requests_in two.requests)

-- the line of two files
abbrev pub line_in : TwoFiles → List ℕ
line_in two = numbers_line (desk_numbers (seats_in two.placement) (requests_in two.requests))

-- two files without a fault were read, each once; their text was appended, and their line noted
pub record IsRegistered (told : Option Files) (words : List (List ℕ))
    (old new notes_old notes_new : Option (List ℕ)) (before now tally_before tally_now : ℕ)
    : Type 0 where
  pub reads : Reads
  pub once : AreReadOnce told (named words) (files_read (plan (clerks_of words))) reads tally_before
      tally_now
  pub two : TwoFiles
  pub read : AreTwo reads two
  pub no_fault : HasNoFault two
  pub printed : Appended old new (text_in two)
  pub noted : IsNoted (line_in two) notes_old notes_new before now

-- where the run is done, it is so
abbrev pub PrintsRegistered : Option Files → List (List ℕ) → DeskStatus
    → Option (List ℕ) → Option (List ℕ) → Option (List ℕ) → Option (List ℕ) → ℕ → ℕ → ℕ → ℕ
    → Type 0
PrintsRegistered told words status old new notes_old notes_new before now tally_before tally_now =
    status ≡ ends.Done → IsRegistered told words old new notes_old notes_new before now
    tally_before tally_now

-- where the words are accepted and two held files have no fault, their text was appended whole, or
-- memory was refused
abbrev pub ServesWhole : Option Files → List (List ℕ) → DeskStatus
    → Option (List ℕ) → Option (List ℕ) → Type 0
ServesWhole told words status old new = IfSome told (λ files.
    (two : TwoFiles) (clerks : ℕ) → clerks_of words ≡ Ok clerks
    → AreTwo (λ kind. files (named words kind)) two → HasNoFault two
    → (status ≡ ends.Memory) ⊎ ((status ≡ ends.Done) × Appended old new (text_in two)))

-- all that is said over the bytes that were read is done, and held files without a fault are served
pub record IsComplete (told : Option Files) (words : List (List ℕ)) (status : DeskStatus)
    (old new : Option (List ℕ)) (before now : Moment) : Type 0 where
  pub whole : IsWhole endings told (named words) (plan (clerks_of words)) status old new before now
  pub serves : ServesWhole told words status old new

-- the words were refused
abbrev pub IsWordsRefusal : DeskStatus → Type 0
IsWordsRefusal status = (refused : DeskWords) × (status ≡ ends.Words refused)
