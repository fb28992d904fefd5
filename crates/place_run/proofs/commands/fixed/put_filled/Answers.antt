use Rattle.std.proofs.Common.{◌<◌, ◌≤◌, ◌++◌, length, ap, ◌∙◌, arith}
use Rattle.programme_table.specs.Table.{codes_of}
use Rattle.place_run.specs.commands.Fixed.{filled_row}
use Rattle.place_run.proofs.RowTexts.{filled-row, rows-more, texts-all}
use Rattle.place_run.proofs.commands.fixed.put_filled.Goals as goal

pub loop-programme-preserved : goal.loop-programme-preserved
loop-programme-preserved c =
    let codes = codes_of c.args.programmes.now.rows in
    let held = c.args.report.now.held in
    let p = c.loop-programme.programme in
    let counted = c.count-programme-end.ensures.length in
    let within : p < length codes = omega (arith, counted, c.loop-programme-test.true) in
    rows-more (filled_row codes held) c.args.bytes.now.items (length codes) p
    c.loop-programme.bytes.items _ within c.loop-programme.invariant
    (c.in_ok-put_row_3.ensures.row
    ∙ ap (λ v. c.loop-programme.bytes.items ++ v) (filled-row codes held p c.number_at.result
    c.from.result within c.number_at.ensures (c.from.ensures ∙ c.held.ensures)))

pub returns : goal.returns
returns c =
    let codes = codes_of c.args.programmes.now.rows in
    let counted = c.count-programme-end.ensures.length in
    let all : length codes ≤ c.loop-programme.programme = omega
    (arith, counted, c.loop-programme-test.false) in
    c.loop-programme.invariant
    ∙ ap (λ v. c.args.bytes.now.items ++ v)
    (texts-all (filled_row codes c.args.report.now.held) (length codes) c.loop-programme.programme
    all)
