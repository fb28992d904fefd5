use Rattle.std.proofs.Common.{◌≡◌}
use Rattle.std.specs.Prelude.{is_some}
use Rattle.market.specs.Counting.{count_below}
use Rattle.market.specs.Choices.{held_in_table}
use Rattle.market.proofs.tentative.Tentative.has_several.Given as goal

abbrev pub invariant-loop-kind : goal.invariant-loop-kind
invariant-loop-kind l =
    l.count ≡ count_below (λ t. is_some (held_in_table l.self t l.candidate)) l.kind
