-- The lines of notes.
use Rattle.std.specs.Prelude.{◌≤◌, ℕ, ◌/◌, ◌%◌, List, [], ◌∷◌, ◌++◌, Option, codes, decimal}
use Rattle.std.specs.List.{join_with_byte}
use Rattle.place_base.specs.FaultKind.{fault_number, fault_name}
use Rattle.place_base.specs.FileKind.{file_name}
use Rattle.place_base.specs.declared.fault.FaultKind.{FaultKind}
use Rattle.place_base.specs.declared.fault.FileFault.{FileFault}
use Rattle.place_edges.specs.Causes.{Rose}
use Rattle.place_edges.specs.Sink.{Appended, AppendedPrefix}
use Rattle.run_frame.specs.declared.stop.FileStop.{FileStop}
use Rattle.run_frame.specs.declared.stop.FileStop.TheVariants.{Fault, ReadFault, Memory}

-- parts with one space between them, and an LF
abbrev pub line_text : List (List ℕ) → List ℕ
line_text parts = join_with_byte 32 parts ++ 10 ∷ []

-- the number of a kind of fault: F and two digits
abbrev pub kind_text : FaultKind → List ℕ
kind_text kind = codes "F" ++ decimal (fault_number kind / 10) ++ decimal (fault_number kind % 10)

-- the line of words that are refused: the name of the refusal, and the place of the word
unfoldable pub words_line : List ℕ → ℕ → List ℕ
words_line name place = line_text (codes "words" ∷ name ∷ decimal place ∷ [])

-- the line of a fault of a file
unfoldable pub fault_line : FileFault → List ℕ
fault_line found =
    line_text (codes "fault" ∷ file_name found.file ∷ codes "line" ∷ decimal found.line
    ∷ codes "field" ∷ decimal found.field ∷ kind_text found.kind ∷ fault_name found.kind
    ∷ codes "earlier" ∷ decimal found.earlier ∷ [])

-- the line of a file that has no table
abbrev pub stop_line : FileStop → List ℕ
stop_line (Fault found) = fault_line found
stop_line ReadFault = codes "read fault\n"
stop_line Memory = codes "want of memory\n"

-- A prefix of this line was noted, and all of it where the count of faults did not rise. The count
-- did not fall.
pub record IsNoted (line : List ℕ) (old new : Option (List ℕ)) (before now : ℕ) : Type 0 where
  pub part : AppendedPrefix old new line
  pub whole : (Rose before now → ⊥) → Appended old new line
  pub later : before ≤ now
