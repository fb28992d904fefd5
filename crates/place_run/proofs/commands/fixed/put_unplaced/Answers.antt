use Rattle.std.proofs.Common.{◌<◌, ◌++◌, length, get_or, ap, ◌∙◌}
use Rattle.std.proofs.lemmas.List.Elements.{All-get_or}
use Rattle.candidate_table.specs.Table.{numbers_of}
use Rattle.place_run.specs.commands.Fixed.{unplaced_row}
use Rattle.place_run.proofs.RowTexts.{list-more, unplaced-row}
use Rattle.place_run.proofs.commands.fixed.put_unplaced.Goals as goal

pub loop-candidate-preserved : goal.loop-candidate-preserved
loop-candidate-preserved c =
    let numbers = numbers_of c.args.numbers.now in
    let n = c.loop-candidate.candidate-index in
    let within = c.loop-candidate-test.true in
    let known = All-get_or (λ i. i < length numbers) c.args.unplaced.now n 0 within c.requires in
    list-more (unplaced_row numbers) c.args.bytes.now.items c.args.unplaced.now n 0
    c.loop-candidate.bytes.items _ within c.loop-candidate.invariant
    (c.in_ok-put_row_3.ensures.row
    ∙ ap (λ v. c.loop-candidate.bytes.items ++ v) (unplaced-row numbers
    (get_or c.args.unplaced.now n 0) c.number_at.result known c.number_at.ensures))
