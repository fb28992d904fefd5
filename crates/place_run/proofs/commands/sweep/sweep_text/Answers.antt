use Rattle.std.proofs.Common.{◌<◌, ◌≤◌, ◌∙◌, ◌++◌, length, sym, ap, arith}
use Rattle.std.specs.List.{flat_map}
use Rattle.std.proofs.lemmas.List.{take_all}
use Rattle.std.proofs.lemmas.Option.{get_or_from_slice_get}
use Rattle.record_files.specs.Texts.{text_of}
use Rattle.place_run.specs.commands.Sweep.{quota_row, sweep_header, sweep_text}
use Rattle.place_run.proofs.RowTexts.{list-more}
use Rattle.place_run.proofs.Sweeps.{quota-row}
use Rattle.place_run.proofs.commands.sweep.sweep_text.Goals as goal

pub loop-index-preserved : goal.loop-index-preserved
loop-index-preserved c =
    let rows = c.args.table.now in
    let n = c.loop-index.index in
    let row = c.row-row.result in
    let written = c.loop-index.bytes.items in
    let within : n < length rows = omega (arith, c.rows-index-end.ensures, c.loop-index-test.true) in
    let at = get_or_from_slice_get rows n row row c.row-row.ensures in
    list-more quota_row sweep_header rows n row written _ within c.loop-index.invariant
    (c.in_ok-put_row_4-2.ensures.row
    ∙ ap (λ v. written ++ v) (quota-row row c.from.result c.from-in-loop-index.result
    c.from-in-loop-index-2.result (text_of c.rank_field.result) c.from.ensures
    c.from-in-loop-index.ensures c.rank_field.ensures.text c.from-in-loop-index-2.ensures)
    ∙ ap (λ v. written ++ quota_row v) (sym at))

pub returns : goal.returns
unfolding sweep_text
returns c =
    let rows = c.args.table.now in
    let all : length rows ≤ c.loop-index.index = omega
    (arith, c.rows-index-end.ensures, c.loop-index-test.false) in
    c.loop-index.invariant
    ∙ ap (λ v. sweep_header ++ flat_map quota_row v) (take_all c.loop-index.index rows all)
