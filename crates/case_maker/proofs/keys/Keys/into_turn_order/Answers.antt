use Rattle.std.proofs.Common.{◌%◌, map, ap, ◌∙◌}
use Rattle.std.proofs.lemmas.List.Sorted.{IsNonDecreasingBy-from_sort}
use Rattle.case_maker.specs.declared.keys.TheConstants.{INDEXES}
use Rattle.case_maker.specs.Turns.{turn_order}
use Rattle.case_maker.proofs.Ordering.{turn_order-sorted}
use Rattle.case_maker.proofs.keys.Keys.into_turn_order.Goals as goal

pub returns : goal.returns
returns c =
    let sorted = c.sort_unstable.new.self.items in
    c.from_vec.ensures ∙ c.in_ok-candidates_of.ensures
    ∙ ap (map (λ key. key % INDEXES)) c.deref.ensures.value
    ∙ turn_order-sorted c.self.inside.packed.items sorted c.sort_unstable.ensures.permutation
    (λ i j le lt. IsNonDecreasingBy-from_sort
    (λ x. x) sorted c.sort_unstable.ensures.sorted i j 0 le lt)
    ∙ ap turn_order c.self.view_is
