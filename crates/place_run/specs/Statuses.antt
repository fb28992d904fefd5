-- The number of each status, and its line on the notes.
use Rattle.std.specs.Prelude.{ℕ, List, [], ◌∷◌, codes, decimal}
use Rattle.command_words.specs.declared.words.WordsFault.{WordsFault}
use Rattle.command_words.specs.declared.words.WordsFault.TheVariants.{NoCommand, UnknownCommand, WordCount, BadNumber}
use Rattle.run_frame.specs.Lines.{fault_line, line_text, words_line}
use Rattle.run_frame.specs.declared.stop.FileStop.TheVariants as file
use Rattle.run_frame.specs.declared.stop.Stop.{Stop}
use Rattle.run_frame.specs.declared.stop.Stop.TheVariants as stop
use Rattle.place_run.specs.declared.status.Ending.{Ending}
use Rattle.place_run.specs.declared.status.Ending.TheVariants as ending
use Rattle.place_run.specs.declared.status.Refusal.{Refusal}
use Rattle.place_run.specs.declared.status.Refusal.TheVariants as refusal
use Rattle.place_run.specs.declared.status.Status.{Status}
use Rattle.place_run.specs.declared.status.Status.TheVariants.{Done, Words, FileFault, ReadFault, WriteFault, Memory, AuditNo, NoProgramme}

-- the number of a status
abbrev pub status_code : Status → ℕ
status_code Done = 0
status_code (Words _) = 2
status_code (FileFault _) = 3
status_code ReadFault = 4
status_code WriteFault = 5
status_code Memory = 6
status_code AuditNo = 7
status_code (NoProgramme _) = 8

-- the status of an answer whose text was written whole
abbrev pub ended : Ending → Status
ended ending.Done = Done
ended ending.AuditNo = AuditNo

-- the status where there is no answer
abbrev pub status_of : Stop Refusal → Status
status_of (stop.Refused (refusal.Words refused)) = Words refused
status_of (stop.Refused (refusal.NoProgramme code)) = NoProgramme code
status_of (stop.File (file.Fault found)) = FileFault found
status_of (stop.File file.ReadFault) = ReadFault
status_of (stop.File file.Memory) = Memory

-- the name of a refusal of words
abbrev pub refusal_name : WordsFault → List ℕ
refusal_name NoCommand = codes "NoCommand"
refusal_name (UnknownCommand _) = codes "UnknownCommand"
refusal_name (WordCount _) = codes "WordCount"
refusal_name (BadNumber _) = codes "BadNumber"

-- the place of the word that is refused, 0 where there is no word
abbrev pub refusal_place : WordsFault → ℕ
refusal_place NoCommand = 0
refusal_place (UnknownCommand place) = place
refusal_place (WordCount place) = place
refusal_place (BadNumber place) = place

-- the line of a code that no programme has
unfoldable pub no_programme_line : ℕ → List ℕ
no_programme_line code = line_text (codes "no" ∷ codes "programme" ∷ decimal code ∷ [])

-- the line of a status
abbrev pub status_line : Status → List ℕ
status_line Done = []
status_line (Words refused) = words_line (refusal_name refused) (refusal_place refused)
status_line (FileFault found) = fault_line found
status_line ReadFault = codes "read fault\n"
status_line WriteFault = codes "write fault\n"
status_line Memory = codes "want of memory\n"
status_line AuditNo = []
status_line (NoProgramme code) = no_programme_line code
