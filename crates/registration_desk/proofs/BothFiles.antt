-- Where the placement file and the registrations file say what they hold, neither has a fault.
use Rattle.std.proofs.Common.{◌≡◌, ℕ, List, Some, Ok, refl, sym, ap, ◌∙◌}
use Rattle.place_base.specs.declared.fault.FileKind.TheVariants as file
use Rattle.placement_file.specs.Requests.{requests_fault, requests_in}
use Rattle.placement_file.specs.SeatLists.{SeatRows, seats_fault, seats_in}
use Rattle.run_frame.proofs.JudgedTables.{SaysTable, judged-ok, says-table}
use Rattle.run_frame.proofs.Plans.{said-from}
use Rattle.run_frame.specs.Files.{Reads}
use Rattle.run_frame.specs.Plans.{said}
use Rattle.registration_desk.specs.Runs.{AreTwo, HasNoFault, TwoFiles}
use Rattle.registration_desk.specs.Says.{DeskFiles, both_plan, placement_said, requests_said}

says-placement : (bytes : List ℕ) (said : SeatRows) → placement_said bytes ≡ Ok said
    → SaysTable (seats_fault bytes) (seats_in bytes) said bytes
unfolding placement_said
says-placement bytes said e = says-table file.Placement _ _ said bytes e

says-requests : (bytes said : List ℕ) → requests_said bytes ≡ Ok said
    → SaysTable (requests_fault bytes) (requests_in bytes) said bytes
unfolding requests_said
says-requests bytes said e = says-table file.Registrations _ _ said bytes e

-- two files that were read have no fault, and hold this
pub record AreServed (reads : Reads) (files : DeskFiles) : Type 0 where
  pub two : TwoFiles
  pub read : AreTwo reads two
  pub no_fault : HasNoFault two
  pub placement : files.placement ≡ seats_in two.placement
  pub requests : files.requests ≡ requests_in two.requests

-- it is so where both files say what they hold
pub are-served : (reads : Reads) (files : DeskFiles) → said both_plan reads ≡ Some (Ok files)
    → AreServed reads files
are-served reads files e =
    let p = said-from (reads file.Placement) placement_said _ files e in
    let r = said-from (reads file.Registrations) requests_said _ files p.4 in
    let one = says-placement p.0 p.2 p.3 in
    let two = says-requests r.0 r.2 r.3 in
    let made : record { placement = p.2; requests = r.2 } ≡ files = cc r.4 in
    record {
      two = record { placement = p.0; requests = r.0 };
      read = record { placement = p.1; requests = r.1 };
      no_fault = record {
        placement_few = one.few;
        requests_few = two.few;
        placement = one.none;
        requests = two.none;
      };
      placement = ap (λ (f : DeskFiles). f.placement) (sym made) ∙ one.same;
      requests = ap (λ (f : DeskFiles). f.requests) (sym made) ∙ two.same;
    }

placement-said : (two : TwoFiles) → HasNoFault two
    → placement_said two.placement ≡ Ok (seats_in two.placement)
unfolding placement_said
placement-said two faultless =
    judged-ok file.Placement _ _ two.placement faultless.placement_few faultless.placement

requests-said : (two : TwoFiles) → HasNoFault two
    → requests_said two.requests ≡ Ok (requests_in two.requests)
unfolding requests_said
requests-said two faultless =
    judged-ok file.Registrations _ _ two.requests faultless.requests_few faultless.requests

-- two files without a fault say what they hold
pub two-said : (reads : Reads) (two : TwoFiles) → AreTwo reads two → HasNoFault two
    → said both_plan reads ≡ Some (Ok (record {
      placement = seats_in two.placement;
      requests = requests_in two.requests;
    }))
two-said reads two read faultless =
    rw read.placement (rw (placement-said two faultless)
    (rw read.requests (rw (requests-said two faultless) refl)))
