use Rattle.std.proofs.Common.{◌≡◌, length}
use Rattle.market.proofs.type_lists_by.no_lists.Given as goal

abbrev pub invariant-loop : goal.invariant-loop
invariant-loop l = length l.made.items ≡ l.counter
