use Rattle.std.proofs.Common.{◌≡◌, ℕ, List, IfOk, subst}
use Rattle.placement_file.specs.SeatLists.{SeatRows}
use Rattle.registration_desk.specs.Reports.{DeskReport, report_on}
use Rattle.registration_desk.proofs.report.report_all.Goals as goal

pub returns : goal.returns
returns g c =
    let served = c.in_ok-desk.ensures {u = tt} in
    subst (λ (z : SeatRows × List ℕ). IfOk c.report_of.result (λ (report : DeskReport).
    report ≡ report_on z.0 z.1))
    (λ k. (served.seats k, served.requests k)) c.report_of.ensures.report
