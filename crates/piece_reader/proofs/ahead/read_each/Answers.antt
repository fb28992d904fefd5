use Rattle.std.proofs.Common.{◌<◌, ◌==◌, List, length, get_or, drop, if◌then◌else◌, IfOk, IfSome, subst, sym, arith}
use Rattle.record_files.specs.Rows.{Row, part_rows}
use Rattle.record_files.specs.declared.rows.RowPart.{RowPart}
use Rattle.piece_reader.specs.Ahead.{IsPartRead}
use Rattle.piece_reader.specs.Header.{data_lists}
use Rattle.piece_reader.proofs.ReadingAhead.{AllZip-each, data_lists-at, length-data_lists}
use Rattle.piece_reader.proofs.ahead.read_each.Goals as goal

pub returns : goal.returns
returns g c =
    let of_file = g.G.RowTable.rules c.args.beside.now in
    let has = g.G.RowTable.has_rows c.args.beside.now in
    let bytes = c.args.bytes.now in
    let parts = c.args.parts.now in
    let size = length-data_lists bytes parts in
    let count = c.in_ok-read.ensures.len in
    AllZip-each
    (λ rows part. IfOk part (λ read. IfSome read (IsPartRead of_file c.args.header has rows)))
    (data_lists bytes parts) c.in_ok-read.read.items
    (omega arith)
    (λ k d e lt. let inside : k < length parts = omega arith in
    let fact = (c.in_ok-read.ensures.each k e inside).1 in
    let part : RowPart = record { start = 0; end = 0; line = 0 } in
    let here : IfOk (get_or c.in_ok-read.read.items k e) (λ read. IfSome read
    (IsPartRead of_file c.args.header has
    (drop (if k == 0 then 1 else 0) (part_rows bytes (get_or parts k part))))) = grind arith in
    subst (λ (rows : List Row). IfOk (get_or c.in_ok-read.read.items k e)
    (λ read. IfSome read (IsPartRead of_file c.args.header has rows)))
    (sym (data_lists-at bytes parts k d part inside)) here)
