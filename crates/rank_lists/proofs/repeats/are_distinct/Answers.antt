use Rattle.std.proofs.Common.{length, subst, IsPermutation}
use Rattle.std.proofs.lemmas.List.Sorted.{IsNonDecreasingBy-from_sort}
use Rattle.rank_lists.specs.Repeats.{HasUnequalNeighbours}
use Rattle.market.proofs.Copies.{Rises}
use Rattle.rank_lists.proofs.ShortForms.{short-distinct}
use Rattle.rank_lists.proofs.repeats.are_distinct.Goals as goal

pub returns : goal.returns
returns c = λ differ.
    let sorted = c.sort_unstable.new.self.items in
    let up : Rises sorted = λ i j le lt. IsNonDecreasingBy-from_sort
    (λ x. x) sorted c.sort_unstable.ensures.sorted i j 0 le lt in
    let forms = c.in_ok-short.ensures {u = tt} in
    let permutation = subst (λ short. IsPermutation short sorted) forms.1
    c.sort_unstable.ensures.permutation in
    let apart = subst (λ xs. HasUnequalNeighbours xs (length xs)) c.deref.ensures.value
    (c.neighbours_differ.ensures differ) in
    short-distinct forms.0 c.args.placed.now sorted permutation up apart
