use Rattle.std.proofs.Common.{ℕ, List, ap, ◌∙◌}
use Rattle.placement_file.specs.SeatLists.{SeatRows}
use Rattle.registration_desk.specs.Reports.{report_on}
use Rattle.registration_desk.specs.Words.{texts}
use Rattle.registration_desk.proofs.Answering.{desk-answers}
use Rattle.registration_desk.proofs.run.serve_files.Goals as goal

pub returns-clause-answers : goal.returns-clause-answers
returns-clause-answers g c =
    desk-answers _ (texts c.args.words.now) c.in_ok-inputs.inputs c.in_ok-report.report
    c.args.clerks _ _ c.in_ok-inputs.ensures.reading
    (c.in_ok-report.ensures
    ∙ ap (λ (seats : SeatRows). report_on seats c.into_parts-placement.result.1.items)
    c.into_parts-placement.ensures.placement
    ∙ ap (λ (requests : List ℕ). report_on c.in_ok-inputs.inputs.placement requests)
    c.into_parts-placement.ensures.requests)
