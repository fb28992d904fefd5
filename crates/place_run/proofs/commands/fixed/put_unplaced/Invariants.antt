use Rattle.std.proofs.Common.{◌≡◌, ◌++◌, take}
use Rattle.std.specs.List.{flat_map}
use Rattle.candidate_table.specs.Table.{numbers_of}
use Rattle.place_run.specs.commands.Fixed.{unplaced_row}
use Rattle.place_run.proofs.commands.fixed.put_unplaced.Given as goal

-- the rows of the candidates before this one were appended
abbrev pub invariant-loop-candidate : goal.invariant-loop-candidate
invariant-loop-candidate l =
    l.bytes.items ≡ l.initial.bytes.items
    ++ flat_map (unplaced_row (numbers_of l.numbers)) (take l.candidate-index l.unplaced)
