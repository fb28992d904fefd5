use Rattle.std.proofs.Common.{◌≡◌, ◌∙◌, ap, subst, Err, List, length, arith}
use Rattle.std.proofs.lemmas.List.{take_all}
use Rattle.std.proofs.lemmas.Result.{err_from_is_err_and}
use Rattle.record_files.specs.Form.{version_in}
use Rattle.record_files.specs.Rows.{Row, data_rows}
use Rattle.record_files.proofs.reading.read_table.Goals as goal

pub returns-in_err-read : goal.returns-in_err-read
returns-in_err-read g c =
    let exit = err_from_is_err_and c.from_residual.result c.from_residual.ensures.1 in
    rw (exit.1 ∙ ap Err exit.2) tt

pub returns-in-None : goal.returns-in-None
returns-in-None g c =
    let read = c.in_ok-read.ensures in
    let all = data_rows c.args.bytes.now in
    let count = c.in_ok-read.read.count in
    let of_file = g.T.RowTable.rules c.args.beside.now in
    let rows = g.T.RowTable.has_rows c.args.beside.now
    (version_in of_file.form c.args.bytes.now) in
    let whole : count ≡ length all = read.taken.whole c.in-None.is in (
      read.first ∙ c.in-None.is,
      subst
          (λ (xs : List Row). rows xs c.in_ok-read.read.table)
          (take_all count all (omega arith))
          read.taken.has,
    )

pub returns-in-Some : goal.returns-in-Some
returns-in-Some g c = let read = c.in_ok-read.ensures in read.first ∙ c.in-Some.is
