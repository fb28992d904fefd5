use Rattle.std.proofs.Common.{◌<◌, length, arith, ap, ◌∙◌, sym}
use Rattle.registration_desk.proofs.Reports.{text_named, text_skipped}
use Rattle.registration_desk.proofs.report.registered_of.Goals as goal
use Rattle.registration_desk.proofs.report.registered_of.Goals.{in-Some+in_ok-put_row_1-2, in_default}

pub loop-index-preserved : goal.loop-index-preserved
loop-index-preserved c =
    let v = c.loop-index.invariant in
    let d = c.args.desk.now in
    let below = c.loop-index-test.true in
    let end = c.candidates-index-end.ensures in
    let inside : c.loop-index.index < length d.seats = omega arith in
    elim c.match-registered_at.branch [
      | in-Some+in_ok-put_row_1-2 w ↦
          let named = sym c.registered_at.ensures ∙ w.in-Some.is in
          ap (λ t. t.items) w.text-is
          ∙ text_named d.seats d.requests _ inside _ _ _ named v
          (w.in_ok-put_row_1-2.ensures {u = tt}).row
      | in_default w ↦
          let skipped = sym c.registered_at.ensures ∙ w.in_default.is in
          ap (λ t. t.items) w.text-is ∙ text_skipped d.seats d.requests _ inside _ skipped v
    ]
