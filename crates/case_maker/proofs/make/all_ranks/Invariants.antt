use Rattle.std.proofs.Common.{◌≡◌, length, map, take}
use Rattle.std.specs.List.{range_with_len}
use Rattle.case_maker.proofs.make.all_ranks.Given as goal

abbrev pub invariant-loop-order : goal.invariant-loop-order
invariant-loop-order l =
    l.ranks.items ≡ map (λ order. range_with_len 1 (length order)) (take l.order-index l.orders)
