use Rattle.std.proofs.Common.{◌≡◌, ℕ, map, take, length, List}
use Rattle.market.proofs.cuts.Cuts.whole.Given as goal

abbrev pub invariant-loop-candidate : goal.invariant-loop-candidate
invariant-loop-candidate l =
    l.lengths.items ≡ map (λ (list : List ℕ). length list) (take l.candidate l.market.lists)
