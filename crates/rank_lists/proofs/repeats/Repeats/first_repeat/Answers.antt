use Rattle.std.proofs.Common.{ℕ, List, length, subst, MatchOption}
use Rattle.std.proofs.lemmas.List.Sorted.{IsNonDecreasingBy-from_sort}
use Rattle.rank_lists.specs.Repeats.{HasNoRepeat, IsFirstRepeat}
use Rattle.market.proofs.Copies.{Rises}
use Rattle.rank_lists.proofs.Sorting.{first-repeat}
use Rattle.rank_lists.proofs.repeats.Repeats.first_repeat.Goals as goal

pub returns : goal.returns
returns c =
    let sorted = c.sort_unstable.new.self.items in
    let up : Rises sorted = λ i j le lt. IsNonDecreasingBy-from_sort
    (λ x. x) sorted c.sort_unstable.ensures.sorted i j 0 le lt in
    let least = rw c.deref-2.ensures.value at c.least_pair.ensures in
    let P : List ℕ → Type 0 =
    λ xs. MatchOption c.least_pair.result (HasNoRepeat xs (length xs))
    (λ r. IsFirstRepeat xs r.earlier r.later) in
    subst P c.self.view_is (first-repeat c.self.inside.placed.items sorted c.self.invariant
    c.sort_unstable.ensures.permutation up c.least_pair.result least)
