use Rattle.std.proofs.Common.{◌≡◌, ◌<◌, ◌-◌, ◌≤◌, ◌^◌, length}
use Rattle.std.specs.Prelude.{slice_get}
use Rattle.place_base.specs.declared.limits.TheConstants.{COMMA}
use Rattle.record_files.specs.Rows.{split}
use Rattle.record_files.proofs.rows.later_field.Given as goal

abbrev pub invariant-loop : goal.invariant-loop
invariant-loop l = record {
  short : length l.rest ≤ 2 ^ 30;
  there : l.index - l.counter < length (split COMMA l.rest);
  same : slice_get (split COMMA l.text) l.index
      ≡ slice_get (split COMMA l.rest) (l.index - l.counter);
}
