use Rattle.std.proofs.Common.{◌≡◌}
use Rattle.registration_desk.proofs.Reports.{text_to}
use Rattle.registration_desk.proofs.report.registered_of.Given as goal

-- the header and the rows of the first candidates
abbrev pub invariant-loop-index : goal.invariant-loop-index
invariant-loop-index l = l.text.items ≡ text_to l.desk.seats l.desk.requests l.index
