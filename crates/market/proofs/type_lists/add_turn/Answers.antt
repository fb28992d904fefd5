use Rattle.std.proofs.Common.{ℕ, ◌+◌, ◌-◌, ◌∙◌, ◌++◌, ap, take, drop, List}
use Rattle.std.specs.Prelude.{slice_index}
use Rattle.std.proofs.lemmas.Result.{IfOk-equal}
use Rattle.market.specs.FlatLists.{between}
use Rattle.market.specs.TypeLists.{items_below}
use Rattle.market.proofs.Between.{between_is}
use Rattle.market.proofs.type_lists.add_turn.Goals as goal

pub returns : goal.returns
returns c =
    let f = c.args.lists.now in
    let first = c.args.found.now.items in
    let marks = c.bounds-bounds.result.now in
    let k = c.args.turn in
    let items =
    between_is f.items f.bounds c.items.result.now marks k c.items.ensures
    c.bounds-bounds.ensures in
    let places =
    between_is f.places f.bounds c.places.result.now marks k c.places.ensures
    c.bounds-bounds.ensures in
    IfOk-equal c.add_below.result _ _ _ c.add_below.ensures
    (ap (λ (xs : List ℕ). first
    ++ items_below c.args.cut xs (take (slice_index marks (k + 1) - slice_index marks k)
    (drop (slice_index marks k) c.places.result.now))) items
    ∙ ap (λ (xs : List ℕ). first ++ items_below c.args.cut (between f.items f.bounds k) xs) places)
