use Rattle.std.proofs.Common.{◌≡◌, ◌++◌, take}
use Rattle.std.specs.List.{flat_map}
use Rattle.place_run.specs.commands.Sweep.{quota_row, sweep_header}
use Rattle.place_run.proofs.commands.sweep.sweep_text.Given as goal

-- the header and the rows before this one were written
abbrev pub invariant-loop-index : goal.invariant-loop-index
invariant-loop-index l =
    l.bytes.items ≡ sweep_header ++ flat_map quota_row (take l.index l.table)
