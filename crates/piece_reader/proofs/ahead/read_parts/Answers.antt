use Rattle.std.proofs.Common.{◌≡◌, List, None, sym, ap, ◌∙◌}
use Rattle.std.specs.List.{flat_map}
use Rattle.std.proofs.lemmas.Result.{IfOk-weaker}
use Rattle.record_files.specs.FirstFaults.{first_row_fault}
use Rattle.record_files.specs.Form.{Form, header_in}
use Rattle.record_files.specs.Rows.{Row, part_rows, rows}
use Rattle.record_files.specs.declared.rows.RowPart.{RowPart}
use Rattle.piece_reader.specs.Header.{data_lists}
use Rattle.piece_reader.proofs.ReadingAhead.{AreReadAhead-from, IfSome-weaker}
use Rattle.piece_reader.proofs.ahead.read_parts.Goals as goal

header-is : {form form' : Form} {rows rows' : List Row} → form ≡ form' → rows ≡ rows'
    → header_in form rows ≡ header_in form' rows'
header-is e f = λ j. header_in (e j) (f j)

pub returns : goal.returns
returns g c =
    let of_file = g.G.RowTable.rules c.args.beside.now in
    let bytes = c.args.bytes.now in
    let parts = c.from_header.result.now in
    let header : first_row_fault of_file.form (rows bytes) ≡ None =
    (λ j. first_row_fault (sym c.form-form.ensures j) (sym c.of_bytes.ensures j))
    ∙ c.in-Ok.ensures.result.0 in
    let same : c.in-Ok.header ≡ header_in of_file.form (rows bytes) =
    c.in-Ok.ensures.result.1 ∙ header-is c.form-form.ensures c.of_bytes.ensures in
    let all : flat_map (part_rows bytes) parts ≡ rows bytes = c.from_header.ensures.rows
    ∙ ap (λ (parts : List RowPart). flat_map (part_rows bytes) parts) c.deref.ensures.value
    ∙ c.in_ok-parts.ensures.rows in
    IfOk-weaker c.whole.result _ _
    (λ read h. IfSome-weaker read _ _
    (λ tables told. AreReadAhead-from of_file _ bytes parts c.in-Ok.header tables.items header
    same c.from_header.ensures.first all
    (told c.in-Ok.header (data_lists bytes parts) c.in_ok-read.ensures)) h)
    c.whole.ensures
