use Rattle.std.proofs.Common.{◌≡◌, ◌∙◌, ℕ, ap, length, sym}
use Rattle.std.proofs.lemmas.List.{length-map}
use Rattle.record_files.specs.Keys.{with_line}
use Rattle.record_files.specs.Rows.{data_rows}
use Rattle.candidate_table.specs.Rows.{number_in}
use Rattle.candidate_table.specs.Table.{Candidates, list_in, numbers_of}
use Rattle.candidate_table.proofs.tests.read.Goals as goal

pub returns : goal.returns
returns g c =
    let rows = data_rows c.args.bytes.now in
    let same = c.in_ok-table.ensures.read.1 in
    ap (λ (t : Candidates). length t.numbers) same ∙ length-map rows (with_line number_in)
    ∙ sym (length-map rows (list_in (numbers_of c.args.codes.now.numbers)))
    ∙ sym (ap (λ (t : Candidates). length t.lists) same)
