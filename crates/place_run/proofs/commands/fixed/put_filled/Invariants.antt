use Rattle.std.proofs.Common.{◌≡◌, ◌++◌, length}
use Rattle.programme_table.specs.Table.{codes_of}
use Rattle.place_run.specs.commands.Fixed.{filled_row}
use Rattle.place_run.proofs.RowTexts.{texts_before}
use Rattle.place_run.proofs.commands.fixed.put_filled.Given as goal

-- the rows of the programmes before this one were appended
abbrev pub invariant-loop-programme : goal.invariant-loop-programme
invariant-loop-programme l =
    l.bytes.items ≡ l.initial.bytes.items
    ++ texts_before (filled_row (codes_of l.programmes.rows) l.report.held)
    (length (codes_of l.programmes.rows)) l.programme
