-- The number of each status, and its line on the notes.
use Rattle.std.specs.Prelude.{ℕ, List, [], ◌∷◌, codes, decimal}
use Rattle.run_frame.specs.Lines.{fault_line, line_text, words_line}
use Rattle.run_frame.specs.declared.stop.FileStop.TheVariants as unread
use Rattle.run_frame.specs.declared.stop.Stop.{Stop}
use Rattle.run_frame.specs.declared.stop.Stop.TheVariants as stop
use Rattle.registration_desk.specs.declared.report.DeskNumbers.{DeskNumbers}
use Rattle.registration_desk.specs.declared.status.DeskStatus.{DeskStatus}
use Rattle.registration_desk.specs.declared.status.DeskStatus.TheVariants.{Done, Words, FileFault, ReadFault, WriteFault, Memory}
use Rattle.registration_desk.specs.declared.words.DeskWords.{DeskWords}
use Rattle.registration_desk.specs.declared.words.DeskWords.TheVariants.{BadNumber, WordCount}

-- the number of a status
abbrev pub status_code : DeskStatus → ℕ
status_code Done = 0
status_code (Words _) = 2
status_code (FileFault _) = 3
status_code ReadFault = 4
status_code WriteFault = 5
status_code Memory = 6

-- the status where there is no report
abbrev pub status_of : Stop DeskWords → DeskStatus
status_of (stop.Refused refused) = Words refused
status_of (stop.File (unread.Fault found)) = FileFault found
status_of (stop.File unread.ReadFault) = ReadFault
status_of (stop.File unread.Memory) = Memory

-- the name of a refusal of words
abbrev pub refusal_name : DeskWords → List ℕ
refusal_name (WordCount _) = codes "WordCount"
refusal_name (BadNumber _) = codes "BadNumber"

-- the place of the word that is refused
abbrev pub refusal_place : DeskWords → ℕ
refusal_place (WordCount place) = place
refusal_place (BadNumber place) = place

-- the line of how many requests were answered in each way
unfoldable pub numbers_line : DeskNumbers → List ℕ
numbers_line numbers =
    line_text (codes "registered" ∷ decimal numbers.registered ∷ codes "again"
    ∷ decimal numbers.again ∷ codes "notplaced" ∷ decimal numbers.not_placed ∷ codes "unknown"
    ∷ decimal numbers.unknown ∷ [])

-- the line of a status, that of Done with these numbers
abbrev pub status_line : DeskNumbers → DeskStatus → List ℕ
status_line numbers Done = numbers_line numbers
status_line numbers (Words refused) = words_line (refusal_name refused) (refusal_place refused)
status_line numbers (FileFault found) = fault_line found
status_line numbers ReadFault = codes "read fault\n"
status_line numbers WriteFault = codes "write fault\n"
status_line numbers Memory = codes "want of memory\n"
