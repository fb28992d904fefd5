use Rattle.std.proofs.Common.{◌≡◌, ◌^◌, ◌≤◌, ◌+◌, length, if◌then◌else◌}
use Rattle.record_files.specs.Rows.{rows_left}
use Rattle.record_files.proofs.rows.Records.next.Given as goal

-- the lines so far were empty
abbrev pub invariant-lines : goal.invariant-lines
invariant-lines l = record {
  room : l.self-inside.line + length l.self-inside.rest.now ≤ 2 ^ 31 + 1;
  short : length l.self-inside.rest.now ≤ 2 ^ 30;
  same : rows_left l.self-inside.done l.self-inside.line l.self-inside.rest.now
      ≡ rows_left l.initial.self-inside.done l.initial.self-inside.line
      l.initial.self-inside.rest.now;
}

abbrev pub decreases-lines : goal.decreases-lines
decreases-lines l = length l.self-inside.rest.now + (if l.self-inside.done then 0 else 1)
