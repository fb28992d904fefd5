use Rattle.std.proofs.Common.{rules, ◌∙◌, ◌%◌, ◌/◌, ℕ, IsTrue, List, length, map, ap, subst, IsPermutation}
use Rattle.std.proofs.lemmas.List.Sorted.{IsNonDecreasingBy-from_sort}
use Rattle.market.specs.Problems.{HasNoRepeats}
use Rattle.rank_lists.specs.declared.keys.TheConstants.{INDEXES}
use Rattle.rank_lists.specs.Repeats.{HasUnequalNeighbours}
use Rattle.rank_lists.proofs.clean.turns_in.Goals as goal

pub returns : goal.returns
returns c =
    let sorted = c.sort_unstable.new.self.items in
    let keys = c.in_ok-keys.ensures {u = tt} in
    let distinct : IsTrue c.in_ok-are_distinct.field-0 = search rules in
    let differ : IsTrue c.neighbours_differ.result = search rules in
    let P : List ℕ → Type 0 = λ keys. IsPermutation keys sorted in
    let Q : List ℕ → Type 0 = λ keys. HasNoRepeats (map (λ key. key % INDEXES) keys) in
    let D : List ℕ → Type 0 = λ ranks. HasUnequalNeighbours ranks (length ranks) in
    record {
      turns = record {
        sorted = sorted;
        permutation = subst P keys c.sort_unstable.ensures.permutation;
        rises = λ i j le lt. IsNonDecreasingBy-from_sort
            (λ x. x) sorted c.sort_unstable.ensures.sorted i j 0 le lt;
        order_is =
            c.in_ok-turns.ensures.0 ∙ ap (map (λ key. key % INDEXES)) c.deref-2.ensures.value;
        ranks_are =
            c.in_ok-turns.ensures.1 ∙ ap (map (λ key. key / INDEXES)) c.deref-2.ensures.value;
      };
      candidates =
          subst Q (c.deref.ensures.value ∙ keys) (c.in_ok-are_distinct.ensures {u = tt} distinct);
      differ = subst D c.items.ensures (c.neighbours_differ.ensures differ);
    }
