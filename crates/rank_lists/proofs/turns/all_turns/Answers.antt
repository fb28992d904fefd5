use Rattle.std.proofs.Common.{ℕ, ◌<◌, ◌≤◌, List, [], ◌∷◌, ◌++◌, length, arith, ⊎_elim}
use Rattle.std.proofs.lemmas.Bool.{cases_lt}
use Rattle.std.proofs.lemmas.List.{get_or_append_left, get_or_push, length_push}
use Rattle.rank_lists.specs.Turns.{AreTurns, AreAllTurns, known_keys}
use Rattle.rank_lists.proofs.turns.all_turns.Goals as goal

-- one type more
AreAllTurns-next : (numbers : List ℕ) (given orders ranks : List (List ℕ))
    (keys order of_order : List ℕ) → AreAllTurns numbers given orders ranks
    → AreTurns (known_keys numbers keys) order of_order
    → AreAllTurns numbers (given ++ keys ∷ []) (orders ++ order ∷ []) (ranks ++ of_order ∷ [])
AreAllTurns-next numbers given orders ranks keys order of_order t last =
    let orders_size = t.orders_size in
    let ranks_size = t.ranks_size in
    let given_more = length_push given keys in
    let orders_more = length_push orders order in
    let ranks_more = length_push ranks of_order in
    record {
      orders_size = omega arith;
      ranks_size = omega arith;
      turns = λ kind lt. ⊎_elim
          (λ (below : kind < length given). rw (
            get_or_append_left given (keys ∷ []) [] kind below,
            get_or_append_left orders
                (order ∷ []) [] kind (omega arith),
            get_or_append_left ranks (of_order ∷ []) [] kind
                (omega arith),
          )
          (t.turns kind below))
          (λ (above : length given ≤ kind). rw (
            get_or_push given keys [] kind (omega arith),
            get_or_push orders order [] kind
                (omega arith),
            get_or_push ranks of_order [] kind (omega arith),
          )
          last)
          (cases_lt kind (length given));
    }

pub loop-of_type-preserved : goal.loop-of_type-preserved
loop-of_type-preserved g c =
    rw (c.in_ok-push.ensures.items, c.in_ok-push-2.ensures.items)
    (AreAllTurns-next (g.C.Finder.numbers c.args.candidates.now) c.loop-of_type.yielded
    c.loop-of_type.orders.items c.loop-of_type.ranks.items c.in-Some.of_type
    c.in_ok-turns.turns.order c.in_ok-turns.turns.ranks
    c.loop-of_type.invariant c.in_ok-turns.ensures)
