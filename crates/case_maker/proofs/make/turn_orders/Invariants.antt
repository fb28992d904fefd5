use Rattle.std.proofs.Common.{◌≡◌, map}
use Rattle.case_maker.specs.Turns.{turn_order}
use Rattle.case_maker.proofs.make.turn_orders.Given as goal

abbrev pub invariant-loop-of_type : goal.invariant-loop-of_type
invariant-loop-of_type l = l.orders.items ≡ map turn_order l.yielded
