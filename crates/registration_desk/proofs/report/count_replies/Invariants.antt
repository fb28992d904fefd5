use Rattle.std.proofs.Common.{◌≡◌}
use Rattle.registration_desk.proofs.Counts.{replies_to}
use Rattle.registration_desk.proofs.report.count_replies.Given as goal

-- the numbers of the first replies
abbrev pub invariant-loop-index : goal.invariant-loop-index
invariant-loop-index l = l.numbers ≡ replies_to l.desk.history l.index
