use Rattle.std.proofs.Common.{None, subst}
use Rattle.record_files.specs.ReadTo.{AreRowsTaken}
use Rattle.piece_reader.proofs.ReadingAhead.{IsPartRead-from}
use Rattle.piece_reader.proofs.ahead.read_part.Goals as goal

pub returns-in-None : goal.returns-in-None
returns-in-None g c =
    let of_file = g.G.RowTable.rules c.args.beside.now in
    let has = g.G.RowTable.has_rows c.args.beside.now in
    let read = c.in_ok-read.read in
    IsPartRead-from of_file c.args.header has _ read c.in-None.is
    (subst (λ all. AreRowsTaken of_file None c.args.header has all read)
    c.data_records-records.ensures
    (c.in_ok-read.ensures {u = tt}))
