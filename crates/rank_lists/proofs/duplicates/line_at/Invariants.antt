use Rattle.std.proofs.Common.{◌≡◌, drop}
use Rattle.record_files.specs.Rows.{data_rows}
use Rattle.rank_lists.proofs.duplicates.line_at.Given as goal

-- so many rows were passed
abbrev pub invariant-loop : goal.invariant-loop
invariant-loop l = l.records ≡ drop l.counter (data_rows l.bytes)
