use Rattle.std.proofs.Common.{◌≡◌, ◌∙◌, List, None, Some, bytes_eq, position, sym, subst}
use Rattle.record_files.proofs.Headers.{header-read}
use Rattle.record_files.specs.FirstFaults.{first_row_fault, long_fault}
use Rattle.record_files.specs.Form.{Form, IsHeaderOf, header_in, version_of}
use Rattle.record_files.specs.Rows.{Row}
use Rattle.record_files.proofs.form.FileForm.read_header.Goals as goal

pub returns-clause-result : goal.returns-clause-result
returns-clause-result c =
    let form : Form = c.args.self.now in
    let row : Row = c.in-Some.row in
    let version : version_of form row ≡ Some c.in-Some-version_of.version =
    (λ j. position (bytes_eq (sym c.bytes.ensures j)) (Form.headers (sym c.self.view_is j)))
    ∙ sym c.version_of.ensures ∙ c.in-Some-version_of.is in
    let short : long_fault form row ≡ None =
    sym c.long_fault.ensures ∙ c.in_default-long_fault.is in
    let read =
    header-read form row c.next.new.self c.in-Some-version_of.version c.field_count.result
    short version c.field_count.ensures in
    subst (λ (all : List Row). (first_row_fault form all ≡ None)
    × (record { version = c.in-Some-version_of.version; fields = c.field_count.result }
    ≡ header_in form all)
    × IsHeaderOf form
    (record { version = c.in-Some-version_of.version; fields = c.field_count.result }))
    (sym c.in-Some.ensures) read
