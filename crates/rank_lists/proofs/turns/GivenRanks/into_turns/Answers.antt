use Rattle.std.proofs.Common.{◌∙◌, ◌%◌, ◌/◌, ℕ, List, map, ap, subst, IsPermutation}
use Rattle.std.proofs.lemmas.List.Sorted.{IsNonDecreasingBy-from_sort}
use Rattle.std.proofs.lemmas.Result.{IfOk-weaker}
use Rattle.rank_lists.specs.declared.keys.TheConstants.{INDEXES}
use Rattle.rank_lists.specs.Turns.{AreTurns, known_keys}
use Rattle.rank_lists.specs.declared.turns.Turns.{Turns}
use Rattle.rank_lists.proofs.turns.GivenRanks.into_turns.Goals as goal

pub returns : goal.returns
returns g c =
    let numbers = g.C.Finder.numbers c.args.candidates.now in
    let sorted = c.sort_unstable.new.self.items in
    let keys = c.in_ok-keys.ensures
    ∙ ap (known_keys numbers) (c.deref.ensures.value ∙ c.self.view_is) in
    let P : List ℕ → Type 0 = λ keys. IsPermutation keys sorted in
    IfOk-weaker c.turns_of.result _ (λ (turns : Turns).
    AreTurns (known_keys numbers c.args.self) turns.order turns.ranks)
    (λ turns are. record {
      sorted = sorted;
      permutation = subst P keys c.sort_unstable.ensures.permutation;
      rises = λ i j le lt. IsNonDecreasingBy-from_sort
          (λ x. x) sorted c.sort_unstable.ensures.sorted i j 0 le lt;
      order_is = are.0 ∙ ap (map (λ key. key % INDEXES)) c.deref-2.ensures.value;
      ranks_are = are.1 ∙ ap (map (λ key. key / INDEXES)) c.deref-2.ensures.value;
    })
    c.turns_of.ensures
