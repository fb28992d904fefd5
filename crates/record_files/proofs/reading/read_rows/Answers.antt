use Rattle.std.proofs.Common.{◌≡◌, ◌∙◌, None, Some, ap, drop, subst, sym}
use Rattle.std.proofs.lemmas.Result.{IfOk-weaker}
use Rattle.record_files.proofs.FirstFaultLemmas.{AreRowsRead-refused, AreRowsRead-taken}
use Rattle.record_files.specs.FirstFaults.{first_row_fault}
use Rattle.record_files.specs.Form.{header_in, version_in}
use Rattle.record_files.specs.ReadTo.{AreRowsTaken}
use Rattle.record_files.specs.Rows.{data_rows, rows}
use Rattle.record_files.proofs.reading.read_rows.Goals as goal

pub returns-in-Ok : goal.returns-in-Ok
returns-in-Ok g c =
    let of_file = g.T.RowTable.rules c.args.beside.now in
    let has = g.T.RowTable.has_rows c.args.beside.now in
    let bytes = c.args.bytes.now in
    let passed : first_row_fault of_file.form (rows bytes) ≡ None =
    (λ j. first_row_fault (sym c.form.ensures j) (sym c.of_bytes-records.ensures j))
    ∙ c.in-Ok.ensures.result.0 in
    let same : c.in-Ok.header ≡ header_in of_file.form (rows bytes) = c.in-Ok.ensures.result.1
    ∙ (λ j. header_in (c.form.ensures j) (c.of_bytes-records.ensures j)) in
    let left : c.read_header.new.records ≡ data_rows bytes =
    c.in-Ok.ensures.passed ∙ ap (drop 1) c.of_bytes-records.ensures in
    IfOk-weaker c.take_rows.result _ _
    (λ read taken. AreRowsRead-taken of_file bytes has c.in-Ok.header read passed same
    (subst (λ all. AreRowsTaken of_file None c.in-Ok.header has all read) left taken))
    c.take_rows.ensures

pub returns-in-Err : goal.returns-in-Err
returns-in-Err g c =
    let of_file = g.T.RowTable.rules c.args.beside.now in
    let bytes = c.args.bytes.now in
    let told : first_row_fault of_file.form (rows bytes) ≡ Some c.in-Err.fault =
    (λ j. first_row_fault (sym c.form.ensures j) (sym c.of_bytes-records.ensures j))
    ∙ c.in-Err.ensures.result in
    AreRowsRead-refused of_file bytes (g.T.RowTable.has_rows c.args.beside.now) c.args.table
    c.in-Err.fault told (c.requires.empty (version_in of_file.form bytes))
