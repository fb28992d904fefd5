use Rattle.std.proofs.Common.{◌≡◌, ℕ, ◌+◌, ◌∙◌, ap, refl, sym, subst, length, [], arith}
use Rattle.std.specs.Prelude.{slice_index_or}
use Rattle.market.specs.Dictatorships.{Dictatorship, choice}
use Rattle.market.specs.LocalNumbers.{local_dictatorship, IsFillBefore}
use Rattle.market.specs.Choices.{held_in_table}
use Rattle.market.specs.Reruns.{IsKeptFill, IsRunUpto}
use Rattle.market.specs.Problems.{order_of}
use Rattle.market.proofs.Locals.{local-turns, local-fill}
use Rattle.market.proofs.Replays.{kept_kind, kept_fills, kept_fill-fits}
use Rattle.round_rerun.proofs.Keeping.{unmarked-none, unmarked-both}
use Rattle.round_rerun.proofs.rerun.run_type.Goals as goal

pub kept_fill-requires-clause-programmes : goal.kept_fill-requires-clause-programmes
kept_fill-requires-clause-programmes g c = λ j p l e.
    kept_kind c.args.market.now c.type_count.ensures.valid c.args.cuts.now c.args.kept.now.table
    c.args.kind c.args.from j p c.requires.kind c.requires.from l c.requires.kept e

pub dict-requires-clause-fill : goal.dict-requires-clause-fill
dict-requires-clause-fill g c =
    let m = c.args.market.now in
    let t = c.args.kind in
    let k = c.args.from in
    let s = subst (IsKeptFill m (held_in_table c.args.kept.now.table) t k)
    (sym c.deref.ensures.value) c.in_ok-fill.ensures in
    kept_fill-fits m c.args.cuts.now c.deref.result.now t k s.programmes
    (kept_fills m c.type_count.ensures.valid c.args.cuts.now c.deref.result.now
    c.args.kept.now.table t k c.requires.kind c.requires.from c.requires.kept s)

pub choice-requires : goal.choice-requires
choice-requires g c =
    let k = c.turns-turn-end.ensures.count in
    let e = c.in_ok-words.ensures.every in
    omega arith

pub write_turn-requires-clause-turn : goal.write_turn-requires-clause-turn
write_turn-requires-clause-turn g c =
    let n = ap (λ (x : Dictatorship). length x.lists) c.in_ok-dict.ensures.dictatorship
    ∙ local-turns c.args.market.now c.args.cuts.now c.deref.result.now c.args.kind c.args.from in
    let k = c.turns-turn-end.ensures.count in
    omega arith

pub write_turn-requires-clause-dict : goal.write_turn-requires-clause-dict
write_turn-requires-clause-dict g c =
    let m = c.args.market.now in
    let e = c.in_ok-dict.ensures.dictatorship in
    let f = ap (λ (x : Dictatorship). x.fill) e
    ∙ local-fill m c.args.cuts.now c.deref.result.now c.args.kind c.args.from in
    e ∙ ap (local_dictatorship m c.args.cuts.now c.args.kind c.args.from) (sym f)

pub write_turn-requires-clause-fill : goal.write_turn-requires-clause-fill
write_turn-requires-clause-fill g c =
    let m = c.args.market.now in
    let t = c.args.kind in
    let k = c.args.from in
    let cuts = c.args.cuts.now in
    let fill = c.deref.result.now in
    let s = subst (IsKeptFill m (held_in_table c.args.kept.now.table) t k)
    (sym c.deref.ensures.value) c.in_ok-fill.ensures in
    let f = ap (λ (x : Dictatorship). x.fill) c.in_ok-dict.ensures.dictatorship
    ∙ local-fill m cuts fill t k in
    subst (IsFillBefore m cuts t k) (sym f)
    (kept_fills m c.type_count.ensures.valid cuts fill c.args.kept.now.table t k c.requires.kind
    c.requires.from c.requires.kept s)

pub write_turn-requires-clause-choice : goal.write_turn-requires-clause-choice
write_turn-requires-clause-choice g c =
    c.choice.ensures ∙ ap (λ (x : Dictatorship). choice x c.loop-turn.turn)
    c.in_ok-words.ensures.dict

pub loop-turn-preserved : goal.loop-turn-preserved
loop-turn-preserved g c =
    let at = c.args.from + c.loop-turn.turn in
    let e : at + 1 ≡ c.args.from + (c.loop-turn.turn + 1) = omega arith in
    record {
      row = subst (λ (n : ℕ). IsRunUpto c.args.market.now c.args.cuts.now c.args.kind n
          (slice_index_or c.write_turn.new.self.table c.args.kind [])) e c.write_turn.ensures.row;
      others = λ u ne. c.write_turn.ensures.others u ne ∙ c.loop-turn.invariant.others u ne;
      choices = c.write_turn.ensures.kept;
      unmarked = unmarked-both c.args.kept.now c.loop-turn.kept c.write_turn.new.self
          c.loop-turn.invariant.unmarked c.write_turn.ensures.unmarked;
    }

pub returns-clause-row : goal.returns-clause-row
returns-clause-row g c =
    let m = c.args.market.now in
    let t = c.args.kind in
    let n = ap (λ (x : Dictatorship). length x.lists) c.in_ok-dict.ensures.dictatorship
    ∙ local-turns m c.args.cuts.now c.deref.result.now t c.args.from in
    let k = c.turns-turn-end.ensures.count in
    let e : c.args.from + c.loop-turn.turn ≡ length (order_of m t) =
    omega (arith, c.requires.from) in
    subst (λ (x : ℕ). IsRunUpto m c.args.cuts.now t x (slice_index_or c.loop-turn.kept.table t [])) e
    c.loop-turn.invariant.row

pub returns-clause-count : goal.returns-clause-count
returns-clause-count g c =
    c.turns.ensures.count
    ∙ ap (λ (x : Dictatorship). length x.lists) c.in_ok-dict.ensures.dictatorship
    ∙ local-turns c.args.market.now c.args.cuts.now c.deref.result.now c.args.kind c.args.from

pub loop-turn-init : goal.loop-turn-init
loop-turn-init g c =
    let m = c.args.market.now in
    let t = c.args.kind in
    let at : c.args.from ≡ c.args.from + 0 = omega arith in
    record {
      row = subst (λ (n : ℕ). IsRunUpto m c.args.cuts.now t n
          (slice_index_or c.args.kept.now.table t [])) at c.requires.kept;
      others = λ _ _. refl;
      choices = c.requires.choices;
      unmarked = unmarked-none c.args.kept.now;
    }

pub returns-clause-turns : goal.returns-clause-turns
returns-clause-turns g c =
    c.in_ok-words.ensures.turns
    ∙ ap (λ (n : ℕ). c.args.turns.now + n) (sym c.turns.ensures.count)
