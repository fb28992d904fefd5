use Rattle.std.proofs.Common.{◌≤◌, length}
use Rattle.record_files.proofs.FirstFaultLemmas.{TakesTo}
use Rattle.record_files.proofs.reading.take_rows.Given as goal

-- the table has the rows so far, which have no fault
abbrev pub invariant-rows : goal.invariant-rows
invariant-rows g l = record {
  few : l.count ≤ l.form.most_rows;
  taken : TakesTo (g.T.RowTable.rules l.beside) l.header (g.T.RowTable.has_rows l.beside)
      l.initial.records l.count l.table l.records;
}

abbrev pub decreases-rows : goal.decreases-rows
decreases-rows g l = length l.records
