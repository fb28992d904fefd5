use Rattle.std.proofs.Common.{ℕ, List, length}
use Rattle.std.specs.List.{AllZip}
use Rattle.std.specs.Vec.Iter.{into_iter_items}
use Rattle.record_files.specs.Rows.{Row}
use Rattle.piece_reader.proofs.Joining.{AddsTo}
use Rattle.piece_reader.proofs.joined.take_part.Given as goal

-- the rows so far are in the table
abbrev pub invariant-rows : goal.invariant-rows
invariant-rows g l = (version : ℕ) (earlier more : List Row)
    → g.T.RowTable.has_rows l.beside version earlier l.initial.table
    → AllZip (g.T.TakesAhead.keeps l.beside version) more (into_iter_items l.initial.left)
    → AddsTo (g.T.RowTable.rules l.beside) version (g.T.TakesAhead.keeps l.beside version)
    (g.T.RowTable.has_rows l.beside version) earlier more l.table (into_iter_items l.left)

abbrev pub decreases-rows : goal.decreases-rows
decreases-rows g l = length (into_iter_items l.left)
