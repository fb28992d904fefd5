use Rattle.std.proofs.Common.{◌≡◌, ◌≢◌, ◌∙◌, ◌==◌, ◌<◌, ℕ, List, [], length, get_or, true, false, arith, sym, ap, subst, Some}
use Rattle.std.specs.Prelude.{slice_get}
use Rattle.std.specs.List.{position_or_len}
use Rattle.std.proofs.lemmas.Bool.Decides.{nat_tests}
use Rattle.std.proofs.lemmas.List.{get_or_default}
use Rattle.std.proofs.lemmas.List.Sums.{position_or_len_is}
use Rattle.std.proofs.lemmas.Option.{slice_get-get_or, slice_get_past}
use Rattle.rank_lists.specs.Table.{RankTable, order_at, ranks_at}
use Rattle.rank_lists.specs.Table.{IsSound}
use Rattle.rank_lists.proofs.table.RankLists.rank_of.Goals as goal

same : (a b : ℕ) → a ≡ b → (a == b) ≡ true
same a b h = grind (arith, nat_tests)

other : (a b : ℕ) → a ≢ b → (a == b) ≡ false
other a b h = grind (arith, nat_tests)

-- the candidate's place in an order, where it stands at this one and not before
found_at : (order : List ℕ) (c turn : ℕ) → turn < length order → get_or order turn 0 ≡ c
    → ((k : ℕ) → k < turn → get_or order k 0 ≢ c) → position_or_len (λ z. z == c) order ≡ turn
found_at order c turn inside here before =
    position_or_len_is (λ z. z == c) order turn 0 (omega arith) (λ k l. other _ c (before k l))
    (λ _. same _ c here)

-- the length, where it stands nowhere
found_nowhere : (order : List ℕ) (c : ℕ) → ((k : ℕ) → k < length order → get_or order k 0 ≢ c)
    → position_or_len (λ z. z == c) order ≡ length order
found_nowhere order c before =
    position_or_len_is (λ z. z == c) order (length order) 0 (omega arith)
    (λ k l. other _ c (before k l)) (λ l. absurd (omega arith))

pub returns-then-other-candidate : goal.returns-then-other-candidate
returns-then-other-candidate c =
    let table = c.args.self.now in
    let kind = c.args.kind in
    let sound = subst IsSound c.self.view_is c.self.invariant in
    let orders = ap (λ (t : RankTable). length t.orders) c.self.view_is in
    let rows = ap (λ (t : RankTable). length t.ranks) c.self.view_is in
    let types = c.requires.kind in
    let both = sound.types in
    let order : c.items-order.result.now ≡ order_at table kind =
    c.items-order.ensures ∙ c.index.ensures
    ∙ get_or_default c.self.inside.orders.items kind c.index.result.now [] (omega arith)
    ∙ ap (λ (t : RankTable). order_at t kind) c.self.view_is in
    let ranks : c.items.result.now ≡ ranks_at table kind =
    c.items.ensures ∙ c.index-then-other-candidate.ensures
    ∙ get_or_default c.self.inside.ranks.items kind c.index-then-other-candidate.result.now []
    (omega arith)
    ∙ ap (λ (t : RankTable). ranks_at t kind) c.self.view_is in
    let turn = c.loop-turn.turn in
    let inside = c.loop-turn-test.true in
    let long = ap length order in
    let beside = sound.beside kind types in
    let first = ap (position_or_len (λ z. z == c.args.candidate)) (sym order)
    ∙ found_at c.items-order.result.now c.args.candidate turn (omega arith)
    c.if-other-candidate.true c.loop-turn.invariant in
    ap (λ (l : List ℕ). Some (get_or l turn 0)) ranks
    ∙ sym (ap (slice_get (ranks_at table kind)) first
    ∙ slice_get-get_or (ranks_at table kind) turn 0 (omega arith))

pub returns : goal.returns
returns c =
    let table = c.args.self.now in
    let kind = c.args.kind in
    let sound = subst IsSound c.self.view_is c.self.invariant in
    let orders = ap (λ (t : RankTable). length t.orders) c.self.view_is in
    let types = c.requires.kind in
    let order : c.items-order.result.now ≡ order_at table kind =
    c.items-order.ensures ∙ c.index.ensures
    ∙ get_or_default c.self.inside.orders.items kind c.index.result.now [] (omega arith)
    ∙ ap (λ (t : RankTable). order_at t kind) c.self.view_is in
    let past = c.loop-turn-test.false in
    let long = ap length order in
    let beside = sound.beside kind types in
    let first = ap (position_or_len (λ z. z == c.args.candidate)) (sym order)
    ∙ found_nowhere c.items-order.result.now c.args.candidate
    (λ k l. c.loop-turn.invariant k (omega arith)) in
    sym (ap (slice_get (ranks_at table kind)) first
    ∙ slice_get_past (ranks_at table kind) (length c.items-order.result.now) (omega arith))
