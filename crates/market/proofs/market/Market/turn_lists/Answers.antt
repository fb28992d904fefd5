use Rattle.std.proofs.Common.{◌+◌, ◌-◌, ◌∙◌, ap, map, take, drop, length, arith}
use Rattle.std.specs.Prelude.{slice_index}
use Rattle.std.proofs.lemmas.List.{take_all, length-drop}
use Rattle.market.specs.Problems.{order_of}
use Rattle.market.specs.LocalNumbers.{local_list}
use Rattle.market.proofs.Dicts.{order-le}
use Rattle.market.proofs.Between.{flat-self, flat-is}
use Rattle.market.proofs.Below.{flat_next}
use Rattle.market.proofs.TurnLists.{HasTurn, few_more, has_turn, rest_at, turn_below}
use Rattle.market.proofs.market.Market.turn_lists.Goals as goal

-- the list of the turn that is added lies within the lists of the type
turn_at : (c : goal.After-cut)
    → HasTurn c.type_lists-type_lists.result.now (c.args.from_turn + c.loop-index.index)
turn_at c =
    let at = rest_at (order_of c.args.self.now c.args.kind) c.order-order.result.now
    c.args.from_turn c.loop-index.index c.order-order.ensures.order c.loop-index-test.true in
    has_turn c.args.self.now c.args.kind (c.args.from_turn + c.loop-index.index)
    c.type_lists-type_lists.result.now c.type_lists-type_lists.ensures.lists at.inside

pub add_turn-requires-clause-turn : goal.add_turn-requires-clause-turn
add_turn-requires-clause-turn c = (turn_at c).turn

pub add_turn-requires-clause-rising : goal.add_turn-requires-clause-rising
add_turn-requires-clause-rising c = (turn_at c).rising

pub add_turn-requires-clause-items : goal.add_turn-requires-clause-items
add_turn-requires-clause-items c = (turn_at c).items

pub add_turn-requires-clause-places : goal.add_turn-requires-clause-places
add_turn-requires-clause-places c = (turn_at c).places

pub overflow_cast-len : goal.overflow_cast-len
overflow_cast-len c =
    let m = c.args.self.now in
    let t = c.args.kind in
    let v = c.type_lists-type_lists.ensures.valid in
    let k = c.loop-index.index in
    let part = c.order-order.result.now in
    let at = rest_at (order_of m t) part c.args.from_turn k c.order-order.ensures.order
    c.loop-index-test.true in
    let inside = at.inside in
    let i = slice_index (take (length part - c.args.from_turn) (drop c.args.from_turn part)) k in
    let xs = turn_below m c.args.cuts.now t (c.args.from_turn + k) i c.cut.result
    c.type_lists-type_lists.result.now c.type_lists-type_lists.ensures.lists inside at.same
    c.cut.ensures in
    let li = v.order_entries t (c.args.from_turn + k) c.requires.kind inside in
    let same = at.same in
    let few =
    few_more m c.args.cuts.now t i k c.loop-index.items.items c.add_turn.new.found.items _ v
    (omega arith) xs c.in_ok-add_turn.ensures c.loop-index.invariant.few in
    let turns = order-le m v t c.requires.kind in
    let candidates = v.candidates in
    omega arith

pub loop-index-preserved : goal.loop-index-preserved
loop-index-preserved c =
    let m = c.args.self.now in
    let t = c.args.kind in
    let v = c.type_lists-type_lists.ensures.valid in
    let k = c.loop-index.index in
    let part = c.order-order.result.now in
    let rest = take (length part - c.args.from_turn) (drop c.args.from_turn part) in
    let at = rest_at (order_of m t) part c.args.from_turn k c.order-order.ensures.order
    c.loop-index-test.true in
    let inside = at.inside in
    let i = slice_index rest k in
    let xs = turn_below m c.args.cuts.now t (c.args.from_turn + k) i c.cut.result
    c.type_lists-type_lists.result.now c.type_lists-type_lists.ensures.lists inside at.same
    c.cut.ensures in
    let li = v.order_entries t (c.args.from_turn + k) c.requires.kind inside in
    let same = at.same in
    record {
      flat = flat_next (local_list m c.args.cuts.now t) rest c.loop-index.items.items
          c.loop-index.bounds.items c.add_turn.new.found.items c.push.new.self.items _ k
          c.len.result c.loop-index-test.true c.loop-index.invariant.flat xs
          c.in_ok-add_turn.ensures c.in_ok-push.ensures.items (omega arith);
      few = few_more m c.args.cuts.now t i k c.loop-index.items.items c.add_turn.new.found.items _ v
          (omega arith) xs c.in_ok-add_turn.ensures c.loop-index.invariant.few;
    }

pub from_parts-requires : goal.from_parts-requires
from_parts-requires c = flat-self _ _ _ c.loop-index.invariant.flat

pub returns-clause-lists : goal.returns-clause-lists
returns-clause-lists c =
    let m = c.args.self.now in
    let part = c.order-order.result.now in
    let from = c.args.from_turn in
    let rest = take (length part - from) (drop from part) in
    let d = length-drop from part in
    c.from_parts.ensures
    ∙ flat-is _ _ _ c.loop-index.invariant.flat
    ∙ ap (map (local_list m c.args.cuts.now c.args.kind))
    (take_all c.loop-index.index rest (omega arith)
    ∙ take_all (length part - from) (drop from part) (omega arith)
    ∙ ap (drop from) c.order-order.ensures.order)
