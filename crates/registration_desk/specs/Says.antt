-- What the words come to: the plan of a run.
use Rattle.std.specs.Prelude.{ℕ, List, [], Result, Ok, Err}
use Rattle.place_base.specs.declared.fault.FileKind.{FileKind}
use Rattle.place_base.specs.declared.fault.FileKind.TheVariants.{Programmes, Candidates, Ranks, Placement, Registrations}
use Rattle.placement_file.specs.Requests.{requests_fault, requests_in}
use Rattle.placement_file.specs.SeatLists.{SeatRows, seats_fault, seats_in}
use Rattle.run_frame.specs.Plans.{Plan, answered, ends, opens}
use Rattle.run_frame.specs.Says.{judged}
use Rattle.run_frame.specs.declared.stop.FileStop.{FileStop}
use Rattle.registration_desk.specs.Reports.{DeskReport, no_numbers, report_on}
use Rattle.registration_desk.specs.Words.{word_at}
use Rattle.registration_desk.specs.declared.report.DeskNumbers.{DeskNumbers}
use Rattle.run_frame.specs.declared.stop.Stop.{Stop}
use Rattle.run_frame.specs.declared.stop.Stop.TheVariants.{Refused}
use Rattle.registration_desk.specs.declared.words.DeskWords.{DeskWords}

-- the placement and the requests
pub record DeskFiles : Type 0 where
  pub placement : SeatRows
  pub requests : List ℕ

-- the names that the words give to the files of each kind: the placement, then the registrations
abbrev pub named : List (List ℕ) → FileKind → List ℕ
named words Programmes = []
named words Candidates = []
named words Ranks = []
named words Placement = word_at words 0
named words Registrations = word_at words 1

-- what a placement file says
unfoldable pub placement_said : List ℕ → Result SeatRows FileStop
placement_said bytes = judged Placement (seats_fault bytes) (seats_in bytes) bytes

-- what a registrations file says
unfoldable pub requests_said : List ℕ → Result (List ℕ) FileStop
requests_said bytes = judged Registrations (requests_fault bytes) (requests_in bytes) bytes

-- the two files, one behind the other: the placement and the requests
abbrev pub both_plan : Plan DeskFiles DeskWords
both_plan =
    opens Placement placement_said (λ placement.
    opens Registrations requests_said (λ requests.
    ends (Ok (record { placement = placement; requests = requests }))))

-- the report on what was read
abbrev pub reported : DeskFiles → DeskReport
reported files = report_on files.placement files.requests

-- what the words come to: the two files, and the report; it does not depend on the number of clerks
abbrev pub plan : Result ℕ DeskWords → Plan DeskReport DeskWords
plan (Err refused) = ends (Err (Refused refused))
plan (Ok clerks) = answered reported both_plan

-- the numbers of a report, none where there is none
abbrev pub numbers_said : Result DeskReport (Stop DeskWords) → DeskNumbers
numbers_said (Ok report) = report.numbers
numbers_said (Err stop) = no_numbers
