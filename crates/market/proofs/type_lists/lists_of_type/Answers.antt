use Rattle.std.proofs.Common.{◌≡◌, ℕ, ◌∙◌, ◌<◌, refl, ap, sym, subst, List, length, take, map, arith}
use Rattle.std.specs.Prelude.{slice_index, slice_get}
use Rattle.std.proofs.lemmas.List.{length-append, length-map, take_all}
use Rattle.market.specs.Problems.{order_of, ranks_of, rank_of, turn_of}
use Rattle.market.specs.declared.limits.TheConstants.{MAX_CANDIDATES}
use Rattle.market.specs.FlatLists.{IsFlat}
use Rattle.market.specs.TypeLists.{type_items, type_places}
use Rattle.market.proofs.Dicts.{order-le, read_lt}
use Rattle.market.proofs.Tentatives.{turn_at}
use Rattle.market.proofs.Between.{flat-none}
use Rattle.market.proofs.Below.{flat_next, length-type_items, length-type_places}
use Rattle.market.proofs.type_lists.lists_of_type.Goals as goal

pub loop-turn-init : goal.loop-turn-init
loop-turn-init c = record {
  items = flat-none _ _ c.new-items.ensures.items c.in_ok-bounds.ensures;
  places = flat-none _ _ c.new-places.ensures.items c.in_ok-bounds.ensures;
  few = omega arith;
}

pub overflow_cast-turn : goal.overflow_cast-turn
overflow_cast-turn c =
    let m = c.args.parts.now in
    let v = c.order-order.ensures.valid in
    let n = ap (λ (xs : List ℕ). length xs) c.order-order.ensures.order in
    let turns = order-le m v c.args.kind c.requires.kind in
    let candidates = v.candidates in
    let few : c.loop-turn.turn < MAX_CANDIDATES = omega (arith, c.loop-turn-test.true) in
    omega arith

pub add_list-requires-clause-rank : goal.add_list-requires-clause-rank
unfolding rank_of
add_list-requires-clause-rank c =
    let m = c.args.parts.now in
    let v = c.order-order.ensures.valid in
    let t = c.args.kind in
    let k = c.loop-turn.turn in
    let order = c.order-order.ensures.order in
    let n = ap (λ (xs : List ℕ). length xs) order in
    c.rank_at-rank.ensures
    ∙ ap (slice_get (ranks_of m t))
    (sym (ap (λ (xs : List ℕ). turn_of m t (slice_index xs k)) order
    ∙ turn_at m v t k c.requires.kind (omega (arith, c.loop-turn-test.true))))

pub add_list-requires-clause-candidate : goal.add_list-requires-clause-candidate
add_list-requires-clause-candidate c =
    let m = c.args.parts.now in
    read_lt c.order-order.result.now (order_of m c.args.kind) (length m.lists)
    c.order-order.ensures.order
    (λ j lj. c.order-order.ensures.valid.order_entries c.args.kind j c.requires.kind lj)
    c.loop-turn.turn c.loop-turn-test.true

pub overflow_cast-len : goal.overflow_cast-len
overflow_cast-len c =
    let m = c.args.parts.now in
    let v = c.order-order.ensures.valid in
    let k = c.loop-turn.turn in
    let order = c.order-order.result.now in
    let i = slice_index order k in
    let li = read_lt order (order_of m c.args.kind) (length m.lists) c.order-order.ensures.order
    (λ j lj. v.order_entries c.args.kind j c.requires.kind lj) k c.loop-turn-test.true in
    let len = ap (λ (ys : List ℕ). length ys) c.in_ok-add_list.ensures.items
    ∙ length-append c.loop-turn.items.items (type_items m c.args.kind i) in
    let short = v.list_lengths i li in
    let few = length-type_items m c.args.kind i in
    let inv = c.loop-turn.invariant.few in
    let turns = order-le m v c.args.kind c.requires.kind in
    let n = ap (λ (xs : List ℕ). length xs) c.order-order.ensures.order in
    let candidates = v.candidates in
    omega arith

pub loop-turn-preserved : goal.loop-turn-preserved
loop-turn-preserved c =
    let m = c.args.parts.now in
    let v = c.order-order.ensures.valid in
    let t = c.args.kind in
    let k = c.loop-turn.turn in
    let order = c.order-order.result.now in
    let i = slice_index order k in
    let li = read_lt order (order_of m t) (length m.lists) c.order-order.ensures.order
    (λ j lj. v.order_entries t j c.requires.kind lj) k c.loop-turn-test.true in
    let xs = type_items m t i in
    let qs = type_places m t i in
    let items = c.loop-turn.items.items in
    let places = c.loop-turn.places.items in
    let len = ap (λ (ys : List ℕ). length ys) c.in_ok-add_list.ensures.items
    ∙ length-append items xs in
    let len' = ap (λ (ys : List ℕ). length ys) c.in_ok-add_list.ensures.places
    ∙ length-append places qs in
    let short = v.list_lengths i li in
    let few = length-type_items m t i in
    let same = length-type_places m t i in
    let inv = c.loop-turn.invariant in
    let a = inv.items.last in
    let b = inv.places.last in
    let la = length-map (take k order) (type_items m t) in
    let lb = length-map (take k order) (type_places m t) in
    let at = ap (λ (j : ℕ). slice_index c.loop-turn.bounds.items j) (la ∙ sym lb) in
    let n = c.len.ensures in
    record {
      items = flat_next (type_items m t) order items c.loop-turn.bounds.items _ _ xs k
          c.len.result c.loop-turn-test.true inv.items refl c.in_ok-add_list.ensures.items
          c.in_ok-push.ensures.items (omega arith);
      places = flat_next (type_places m t) order places c.loop-turn.bounds.items _ _ qs k
          c.len.result c.loop-turn-test.true inv.places refl c.in_ok-add_list.ensures.places
          c.in_ok-push.ensures.items (omega arith);
      few = omega arith;
    }

pub returns : goal.returns
returns c =
    let m = c.args.parts.now in
    let t = c.args.kind in
    let k = c.loop-turn.turn in
    let order = c.order-order.result.now in
    let bounds = c.loop-turn.bounds.items in
    let inv = c.loop-turn.invariant in
    let all : take k order ≡ order_of m t = take_all k order (omega arith)
    ∙ c.order-order.ensures.order in
    record {
      items = subst
          (λ (xs : List ℕ). IsFlat c.loop-turn.items.items bounds (map (type_items m t) xs))
          all
          inv.items;
      places = subst
          (λ (xs : List ℕ). IsFlat c.loop-turn.places.items bounds (map (type_places m t) xs))
          all
          inv.places;
    }
