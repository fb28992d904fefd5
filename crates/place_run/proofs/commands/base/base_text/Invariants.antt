use Rattle.std.proofs.Common.{◌≡◌, ◌++◌, length}
use Rattle.programme_table.specs.Table.{codes_of}
use Rattle.place_run.specs.commands.Base.{base_header, programme_row}
use Rattle.place_run.proofs.RowTexts.{texts_before}
use Rattle.place_run.proofs.commands.base.base_text.Given as goal

-- the header and the rows of the programmes before this one were written
abbrev pub invariant-loop-programme : goal.invariant-loop-programme
invariant-loop-programme l =
    l.bytes.items ≡ base_header ++ texts_before (programme_row
    (codes_of l.placed.problem.programmes.rows) l.placed.problem.market l.placed.placement)
    (length l.placed.problem.market.programmes) l.programme
