use Rattle.std.proofs.Common.{◌++◌, length, ap, ◌∙◌}
use Rattle.std.specs.List.{flat_map, range_with_len}
use Rattle.candidate_table.specs.Table.{numbers_of}
use Rattle.programme_table.specs.Table.{codes_of}
use Rattle.place_run.specs.commands.Fixed.{filled_row, fixed_header, fixed_text, unplaced_row}
use Rattle.place_run.proofs.commands.fixed.fixed_text.Goals as goal

pub returns : goal.returns
unfolding fixed_text
returns c =
    let codes = codes_of c.args.problem.now.programmes.rows in
    let row = unplaced_row (numbers_of c.args.problem.now.numbers) in
    let seats = c.args.report.now in
    let header = c.in_ok-put_row_3.ensures.row
    ∙ ap (λ v. v ++ fixed_header) c.new-bytes.ensures.items in
    c.in_ok-put_filled.ensures
    ∙ ap (λ v. v ++ flat_map (filled_row codes seats.held) (range_with_len 0 (length codes)))
    (c.in_ok-put_unplaced.ensures
    ∙ ap (λ v. c.put_row_3.new.out.items ++ flat_map row v) c.unplaced.ensures
    ∙ ap (λ v. v ++ flat_map row seats.unplaced) header)
