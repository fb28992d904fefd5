use Rattle.std.proofs.Common.{◌≡◌, map}
use Rattle.std.specs.Prelude.{slice_get}
use Rattle.std.specs.List.{range_with_len}
use Rattle.market.specs.Problems.{list_of}
use Rattle.market.specs.Choices.{held_in_table}
use Rattle.market.specs.Mechanism.{best_in}
use Rattle.market.proofs.tentative.Tentative.best_programmes.Given as goal

abbrev pub invariant-loop-candidate : goal.invariant-loop-candidate
invariant-loop-candidate l = l.held.items
    ≡ map (λ i. slice_get (list_of l.market i) (best_in l.market (held_in_table l.self) i))
    (range_with_len 0 l.candidate)
