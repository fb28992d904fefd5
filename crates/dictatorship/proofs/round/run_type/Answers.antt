use Rattle.std.proofs.Common.{◌≡◌, ℕ, ◌+◌, ◌∙◌, ap, refl, sym, subst, length, List, [], arith, rules, replicate}
use Rattle.std.specs.Prelude.{slice_index_or}
use Rattle.std.proofs.lemmas.List.{get_or_read}
use Rattle.market.specs.Dictatorships.{Dictatorship}
use Rattle.market.specs.LocalNumbers.{local_dictatorship, IsFillBefore}
use Rattle.market.specs.Reruns.{IsRunUpto}
use Rattle.market.proofs.Locals.{local-turns, local-fill, length-choices, choices-at, zero_fill}
use Rattle.dictatorship.proofs.round.run_type.Goals as goal

pub dict-requires-clause-fill : goal.dict-requires-clause-fill
dict-requires-clause-fill c =
    let mem = ap (λ (xs : List ℕ). length xs) c.type_programmes.ensures.members in
    let z : c.in_ok-fill.fill.items ≡ replicate (length c.type_programmes.result.now) 0 =
    search rules in
    (zero_fill c.args.market.now c.args.cuts.now c.deref.result.now c.args.kind
    (length c.type_programmes.result.now) mem (c.deref.ensures.value ∙ z)).1

pub index-requires : goal.index-requires
index-requires c =
    let n = c.turns-turn-end.ensures.count in
    let f = ap (λ (xs : List ℕ). length xs) c.in_ok-places.ensures
    ∙ length-choices c.in_ok-dict.dict in
    omega arith

pub write_turn-requires-clause-turn : goal.write_turn-requires-clause-turn
write_turn-requires-clause-turn c =
    let n = ap (λ (x : Dictatorship). length x.lists) c.in_ok-dict.ensures.dictatorship
    ∙ local-turns c.args.market.now c.args.cuts.now c.deref.result.now c.args.kind 0 in
    let k = c.turns-turn-end.ensures.count in
    omega arith

pub write_turn-requires-clause-dict : goal.write_turn-requires-clause-dict
write_turn-requires-clause-dict c =
    let m = c.args.market.now in
    let e = c.in_ok-dict.ensures.dictatorship in
    let f = ap (λ (x : Dictatorship). x.fill) e
    ∙ local-fill m c.args.cuts.now c.deref.result.now c.args.kind 0 in
    e ∙ ap (local_dictatorship m c.args.cuts.now c.args.kind 0) (sym f)

pub write_turn-requires-clause-fill : goal.write_turn-requires-clause-fill
write_turn-requires-clause-fill c =
    let m = c.args.market.now in
    let cuts = c.args.cuts.now in
    let fill = c.deref.result.now in
    let mem = ap (λ (xs : List ℕ). length xs) c.type_programmes.ensures.members in
    let z : c.in_ok-fill.fill.items ≡ replicate (length c.type_programmes.result.now) 0 =
    search rules in
    let f = ap (λ (x : Dictatorship). x.fill) c.in_ok-dict.ensures.dictatorship
    ∙ local-fill m cuts fill c.args.kind 0 in
    subst (IsFillBefore m cuts c.args.kind 0) (sym f)
    (zero_fill m cuts fill c.args.kind (length c.type_programmes.result.now) mem
    (c.deref.ensures.value ∙ z)).0

pub write_turn-requires-clause-choice : goal.write_turn-requires-clause-choice
write_turn-requires-clause-choice c =
    let d = c.in_ok-dict.dict in
    let k = c.loop-turn.turn in
    let n = c.turns-turn-end.ensures.count in
    let e = c.in_ok-places.ensures in
    let f = ap (λ (xs : List ℕ). length xs) e ∙ length-choices d in
    get_or_read c.in_ok-places.places.items k c.index.result.now (omega arith) c.index.ensures 0
    ∙ ap (λ (xs : List ℕ). slice_index_or xs k 0) e ∙ choices-at d k (omega arith)

pub write_turn-requires-clause-row : goal.write_turn-requires-clause-row
write_turn-requires-clause-row c =
    let k = c.loop-turn.turn in
    let e : k ≡ 0 + k = omega arith in
    subst (λ (n : ℕ). IsRunUpto c.args.market.now c.args.cuts.now c.args.kind n
    (slice_index_or c.loop-turn.table c.args.kind [])) e c.loop-turn.invariant.row

pub loop-turn-preserved : goal.loop-turn-preserved
loop-turn-preserved c =
    let k = c.loop-turn.turn in
    let e : 0 + k + 1 ≡ k + 1 = omega arith in
    record {
      types = c.write_turn.ensures.types;
      row = subst (λ (n : ℕ). IsRunUpto c.args.market.now c.args.cuts.now c.args.kind n
          (slice_index_or c.write_turn.new.self c.args.kind [])) e c.write_turn.ensures.row;
      others = λ u ne. c.write_turn.ensures.others u ne ∙ c.loop-turn.invariant.others u ne;
    }

pub returns-clause-row : goal.returns-clause-row
returns-clause-row c =
    let m = c.args.market.now in
    let t = c.args.kind in
    let n = ap (λ (x : Dictatorship). length x.lists) c.in_ok-dict.ensures.dictatorship
    ∙ local-turns m c.args.cuts.now c.deref.result.now t 0 in
    let k = c.turns-turn-end.ensures.count in
    subst (λ (n : ℕ). IsRunUpto m c.args.cuts.now t n (slice_index_or c.loop-turn.table t []))
    (omega arith) c.loop-turn.invariant.row

pub overflow_cast-turn : goal.overflow_cast-turn
overflow_cast-turn c =
    let below = c.loop-turn-test.true in
    let count = c.turns-turn-end.ensures.count in
    let fits = c.turns-turn-end.type_inv in
    omega arith

pub loop-turn-init : goal.loop-turn-init
loop-turn-init c =
    record { types = c.requires.types; row = c.requires.row; others = λ _ _. refl }
