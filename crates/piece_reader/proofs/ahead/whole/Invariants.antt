use Rattle.std.proofs.Common.{◌≤◌, List, length}
use Rattle.std.specs.Vec.Iter.{into_iter_items}
use Rattle.record_files.specs.Rows.{Row}
use Rattle.record_files.specs.declared.form.Header.{Header}
use Rattle.piece_reader.specs.Ahead.{ArePartsRead}
use Rattle.piece_reader.proofs.ReadingAhead.{PartsLeft}
use Rattle.piece_reader.proofs.ahead.whole.Given as goal

-- the tables so far are those of the first parts, whose rows are not too many
abbrev pub invariant-parts : goal.invariant-parts
invariant-parts g l = record {
  tables : (header : Header) (lists : List (List Row))
      → ArePartsRead (g.G.RowTable.rules l.beside) header (g.G.RowTable.has_rows l.beside) lists
      (into_iter_items l.initial.left)
      → PartsLeft (g.G.RowTable.rules l.beside) header (g.G.RowTable.has_rows l.beside) lists
      l.tables.items l.rows (into_iter_items l.left);
  few : l.rows ≤ l.most_rows;
}

abbrev pub decreases-parts : goal.decreases-parts
decreases-parts g l = length (into_iter_items l.left)
