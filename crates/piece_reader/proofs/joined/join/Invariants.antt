use Rattle.std.proofs.Common.{length}
use Rattle.std.specs.Vec.Iter.{into_iter_items}
use Rattle.record_files.specs.Form.{version_in}
use Rattle.record_files.specs.Rows.{data_rows}
use Rattle.piece_reader.proofs.Joining.{JoinsParts}
use Rattle.piece_reader.proofs.joined.join.Given as goal

-- the rows of the parts so far are in the table
abbrev pub invariant-parts : goal.invariant-parts
invariant-parts g l =
    let version = version_in (g.T.RowTable.rules l.beside).form l.bytes in
    JoinsParts (g.T.RowTable.rules l.beside) version (g.T.TakesAhead.keeps l.beside version)
    (g.T.RowTable.has_rows l.beside version) (data_rows l.bytes) l.table (into_iter_items l.left)

abbrev pub decreases-parts : goal.decreases-parts
decreases-parts g l = length (into_iter_items l.left)
