use Rattle.std.proofs.Common.{◌≡◌, ℕ, ◌+◌, ◌<◌, ◌∙◌, ap, sym, subst, length, List, [], Option, None, arith, set, get_or}
use Rattle.std.specs.Prelude.{slice_index, slice_index_or}
use Rattle.std.proofs.lemmas.List.{get_or-set_same, get_or-set_other, length-set}
use Rattle.market.specs.Problems.{Problem, order_of, turn_of}
use Rattle.market.specs.LocalNumbers.{local_dictatorship}
use Rattle.market.specs.Dictatorships.{Dictatorship}
use Rattle.market.specs.Reruns.{IsRunUpto}
use Rattle.market.proofs.Locals.{local-turns, turn_pick, entries_fit}
use Rattle.market.proofs.Tentatives.{turn_at}
use Rattle.market.proofs.Replays.{run-more, pick-small}
use Rattle.market.proofs.tentative.Tentative.write_turn.Goals as goal

-- the dictatorship has this turn
has_turn : (m : Problem) (cuts fill : List ℕ) (t from k : ℕ) (d : Dictatorship)
    → d ≡ local_dictatorship m cuts t from fill → from + k < length (order_of m t)
    → k < length d.lists
has_turn m cuts fill t from k d e l =
    let n = ap (λ (x : Dictatorship). length x.lists) e ∙ local-turns m cuts fill t from in
    omega arith

pub list-requires : goal.list-requires
list-requires c =
    has_turn c.args.market.now c.args.cuts.now c.args.dict.now.fill c.args.kind c.args.from_turn
    c.args.turn c.args.dict.now c.requires.dict c.requires.turn

pub entry-programme-requires : goal.entry-programme-requires
entry-programme-requires c =
    let m = c.args.market.now in
    let d = c.args.dict.now in
    let l = has_turn m c.args.cuts.now d.fill c.args.kind c.args.from_turn c.args.turn d
    c.requires.dict c.requires.turn in
    let mem = ap (λ (xs : List ℕ). length xs) c.type_programmes-members.ensures.members in
    λ j lj.
    let h = entries_fit m c.args.cuts.now d.fill c.args.kind c.args.from_turn c.args.turn d
    c.list.result.now c.turns.ensures.valid c.requires.dict l c.list.ensures j lj in
    omega arith

pub set-requires-clause-candidate : goal.set-requires-clause-candidate
set-requires-clause-candidate c =
    let m = c.args.market.now in
    let at = c.args.from_turn + c.args.turn in
    let l = c.order-order.ensures.valid.order_entries c.args.kind at c.requires.kind
    c.requires.turn in
    let x = ap (λ (xs : List ℕ). slice_index xs at) c.order-order.ensures.order in
    let r = c.requires.row.candidates in
    omega arith

pub set-requires-clause-fits : goal.set-requires-clause-fits
set-requires-clause-fits c =
    let m = c.args.market.now in
    let v = c.order-order.ensures.valid in
    let t = c.args.kind in
    let cuts = c.args.cuts.now in
    let d = c.args.dict.now in
    let x = turn_pick m v cuts d.fill t c.args.from_turn c.args.turn d
    c.type_programmes-members.result.now c.list.result.now c.args.place c.entry-programme.result
    c.requires.kind c.requires.fill c.requires.dict c.requires.turn
    c.type_programmes-members.ensures.members c.list.ensures c.requires.choice
    c.entry-programme.ensures in
    pick-small m v cuts t (c.args.from_turn + c.args.turn) c.entry-programme.result c.requires.kind
    c.requires.turn x

pub returns-clause-types : goal.returns-clause-types
returns-clause-types c =
    ap (λ (xs : List (List (Option ℕ))). length xs) c.set.ensures
    ∙ length-set c.args.self.now c.args.kind _ ∙ c.requires.types

pub returns-clause-row : goal.returns-clause-row
returns-clause-row c =
    let m = c.args.market.now in
    let v = c.order-order.ensures.valid in
    let t = c.args.kind in
    let cuts = c.args.cuts.now in
    let d = c.args.dict.now in
    let at = c.args.from_turn + c.args.turn in
    let table = c.args.self.now in
    let row = slice_index_or table t [] in
    let x = c.entry-programme.result in
    let p = turn_pick m v cuts d.fill t c.args.from_turn c.args.turn d
    c.type_programmes-members.result.now c.list.result.now c.args.place x c.requires.kind
    c.requires.fill c.requires.dict c.requires.turn c.type_programmes-members.ensures.members
    c.list.ensures c.requires.choice c.entry-programme.ensures in
    let candidate = slice_index c.order-order.result.now at in
    let types = c.requires.types in
    subst (IsRunUpto m cuts t (at + 1))
    (ap (λ (i : ℕ). set row i x)
    (sym (ap (λ (xs : List ℕ). slice_index xs at) c.order-order.ensures.order))
    ∙ sym (ap (λ (xs : List (List (Option ℕ))). get_or xs t []) c.set.ensures
    ∙ get_or-set_same table t (set row candidate x) [] (omega (arith, c.requires.kind))))
    (run-more m v cuts t at row x c.requires.kind c.requires.turn c.requires.row p)

pub returns-clause-rest : goal.returns-clause-rest
returns-clause-rest c = λ i other.
    let m = c.args.market.now in
    let t = c.args.kind in
    let at = c.args.from_turn + c.args.turn in
    let table = c.args.self.now in
    let row = slice_index_or table t [] in
    let x = c.entry-programme.result in
    let candidate = slice_index c.order-order.result.now at in
    let own = ap (λ (xs : List ℕ). slice_index xs at) c.order-order.ensures.order in
    let types = c.requires.types in
    ap (λ (xs : List (List (Option ℕ))). get_or (get_or xs t []) i None) c.set.ensures
    ∙ ap (λ (xs : List (Option ℕ)). get_or xs i None)
    (get_or-set_same table t (set row candidate x) [] (omega (arith, c.requires.kind)))
    ∙ get_or-set_other row candidate i x None
    (λ same. other (ap (turn_of m t) (same ∙ own)
    ∙ turn_at m c.order-order.ensures.valid t at c.requires.kind c.requires.turn))

pub returns-clause-others : goal.returns-clause-others
returns-clause-others c = λ u ne.
    ap (λ (xs : List (List (Option ℕ))). get_or xs u []) c.set.ensures
    ∙ get_or-set_other c.args.self.now c.args.kind u _ [] ne
