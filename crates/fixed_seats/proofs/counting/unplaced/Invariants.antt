use Rattle.std.proofs.Common.{◌≡◌}
use Rattle.std.specs.Prelude.{filter, is_none}
use Rattle.std.specs.List.{range_with_len}
use Rattle.market.specs.Stability.{held_by}
use Rattle.fixed_seats.proofs.counting.unplaced.Given as goal

abbrev pub invariant-loop-candidate : goal.invariant-loop-candidate
invariant-loop-candidate l =
    l.found.items ≡ filter (λ i. is_none (held_by l.held i)) (range_with_len 0 l.candidate)
