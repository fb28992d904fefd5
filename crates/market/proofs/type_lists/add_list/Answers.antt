use Rattle.std.proofs.Common.{ℕ, ◌∷◌, [], ◌++◌, ◌∙◌, ap, sym, List, Vec, Global, arith, map, length}
use Rattle.std.specs.Prelude.{slice_index, filter}
use Rattle.std.proofs.lemmas.List.{take_all}
use Rattle.market.specs.Problems.{list_of}
use Rattle.market.specs.Mechanism.{is_offered}
use Rattle.market.specs.LocalNumbers.{local_of}
use Rattle.market.specs.TypeLists.{places_from, type_items, type_places}
use Rattle.market.proofs.Dicts.{read_lt}
use Rattle.market.proofs.Tentatives.{offered-is}
use Rattle.market.proofs.Below.{places_more, places_same, items_more, items_same}
use Rattle.market.proofs.type_lists.add_list.Goals as goal
use Rattle.market.proofs.type_lists.add_list.Goals.{then-is_offered+in_ok-push+in_ok-push-2, else-is_offered}

pub loop-place-preserved : goal.loop-place-preserved
loop-place-preserved c =
    let m = c.args.parts.now in
    let k = c.loop-place.place in
    let xs = c.list-list.result.now in
    let t = c.args.kind in
    let i = c.args.candidate in
    let p = slice_index xs k in
    let l = c.loop-place-test.true in
    let lp = read_lt xs (list_of m i) (length m.programmes) c.list-list.ensures.list
    (λ j lj. c.list-list.ensures.valid.list_entries i j c.requires.candidate lj) k l in
    let test = offered-is m t i p c.programme.result c.args.rank c.programme.ensures
    c.requires.rank ∙ sym c.is_offered.ensures in
    let f = is_offered m t i in
    elim c.if-is_offered.branch [
      | then-is_offered+in_ok-push+in_ok-push-2 w ↦ record {
        items = items_more (local_of m) f xs c.args.items.now.items c.loop-place.items.items _ k l
            (test ∙ w.if-is_offered.true)
            c.loop-place.invariant.items
            (ap (λ (v : Vec ℕ Global). v.items) w.items-is ∙ w.in_ok-push.ensures.items
            ∙ ap (λ (x : ℕ). c.loop-place.items.items ++ x ∷ []) (c.requires.numbers.each p lp));
        places = places_more f xs c.args.places.now.items c.loop-place.places.items _ k l
            (test ∙ w.if-is_offered.true)
            c.loop-place.invariant.places
            (ap (λ (v : Vec ℕ Global). v.items) w.places-is ∙ w.in_ok-push-2.ensures.items);
      }
      | else-is_offered w ↦ record {
        items =
            ap (λ (v : Vec ℕ Global). v.items) w.items-is
            ∙ items_same (local_of m) f xs c.args.items.now.items c.loop-place.items.items k l
            (test ∙ w.if-is_offered.false)
            c.loop-place.invariant.items;
        places =
            ap (λ (v : Vec ℕ Global). v.items) w.places-is
            ∙ places_same f xs c.args.places.now.items c.loop-place.places.items k l
            (test ∙ w.if-is_offered.false)
            c.loop-place.invariant.places;
      }
    ]

pub returns-clause-items : goal.returns-clause-items
unfolding type_items
returns-clause-items c =
    let m = c.args.parts.now in
    c.loop-place.invariant.items
    ∙ ap (λ (xs : List ℕ). c.args.items.now.items
    ++ map (local_of m) (filter (is_offered m c.args.kind c.args.candidate) xs))
    (take_all c.loop-place.place c.list-list.result.now (omega arith) ∙ c.list-list.ensures.list)

pub returns-clause-places : goal.returns-clause-places
unfolding type_places
returns-clause-places c =
    let m = c.args.parts.now in
    c.loop-place.invariant.places
    ∙ ap (λ (xs : List ℕ). c.args.places.now.items
    ++ places_from (is_offered m c.args.kind c.args.candidate) 0 xs)
    (take_all c.loop-place.place c.list-list.result.now (omega arith) ∙ c.list-list.ensures.list)
