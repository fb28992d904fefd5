use Rattle.std.proofs.Common.{◌-◌, length}
use Rattle.record_files.proofs.FieldCuts.{CutTo}
use Rattle.record_files.proofs.rows.cut.Given as goal

-- the fields so far
abbrev pub invariant-fields : goal.invariant-fields
invariant-fields l = CutTo l.text l.cuts.ends l.cuts.count l.start

abbrev pub decreases-fields : goal.decreases-fields
decreases-fields l = length l.text - l.start
