use Rattle.std.proofs.Common.{◌≡◌, ℕ, ◌+◌, ◌<◌, ◌∙◌, ap, sym, subst, length, List, arith, rules, set, replicate, Vec, Global}
use Rattle.std.specs.Prelude.{slice_index}
use Rattle.std.proofs.lemmas.List.{get_or_read}
use Rattle.market.specs.LocalNumbers.{programmes_of}
use Rattle.market.specs.Choices.{held_in_table}
use Rattle.market.specs.Reruns.{IsKeptFill}
use Rattle.market.proofs.Dicts.{local_lt}
use Rattle.market.proofs.Replays.{IsKeptFill-none, IsKeptFill-take, IsKeptFill-pass, kept-le}
use Rattle.round_rerun.proofs.rerun.kept_fill.Goals as goal
use Rattle.round_rerun.proofs.rerun.kept_fill.Goals.{After-local-number, in-Some, in_default}

pub loop-turn-init : goal.loop-turn-init
loop-turn-init c =
    let m = c.args.market.now in
    let e = ap (λ (xs : List ℕ). length xs) c.type_programmes.ensures.members in
    let z : c.in_ok-fill.fill.items ≡ replicate (length c.type_programmes.result.now) 0 = search
    rules in
    IsKeptFill-none m (held_in_table c.args.tentative.now) c.args.kind c.in_ok-fill.fill.items (z
    ∙ ap (λ (n : ℕ). replicate n 0) e)

pub local-number-requires : goal.local-number-requires
local-number-requires c =
    let table = c.args.tentative.now in
    let at = ap (λ (xs : List ℕ). held_in_table table c.args.kind (slice_index xs c.loop-turn.turn))
    (sym c.order-order.ensures.order) ∙ sym c.choice.ensures ∙ c.in-Some.is in
    (c.requires.programmes c.loop-turn.turn c.in-Some.programme c.loop-turn-test.true at).0

-- the number of the programme that the turn chose is that of an entry
number-within : (c : After-local-number) → c.local-number.result < length c.loop-turn.fill.items
number-within c =
    let m = c.args.market.now in
    let table = c.args.tentative.now in
    let at = ap (λ (xs : List ℕ). held_in_table table c.args.kind (slice_index xs c.loop-turn.turn))
    (sym c.order-order.ensures.order) ∙ sym c.choice.ensures ∙ c.in-Some.is in
    let p = c.requires.programmes c.loop-turn.turn c.in-Some.programme c.loop-turn-test.true at in
    let l = local_lt m c.args.kind c.in-Some.programme p.0 p.1 in
    let n = c.loop-turn.invariant.programmes in
    let e = c.local-number.ensures in
    omega arith

pub index_mut-requires : goal.index_mut-requires
index_mut-requires c =
    let within = number-within (goal.at.index_mut-requires c).After-local-number in omega arith

pub overflow_add-index_mut : goal.overflow_add-index_mut
overflow_add-index_mut c =
    let m = c.args.market.now in
    let table = c.args.tentative.now in
    let number = c.local-number.result in
    let within = number-within (goal.at.overflow_add-index_mut c).After-local-number in
    let n = c.loop-turn.invariant.programmes in
    let x = c.loop-turn.invariant.each number (omega arith) in
    let b = kept-le m (held_in_table table) c.args.kind c.loop-turn.turn (slice_index (programmes_of
    m c.args.kind) number) in
    let v = get_or_read c.loop-turn.fill.items number c.index_mut.result.now (omega arith)
    c.index_mut.ensures.value 0 in
    omega arith

pub loop-turn-preserved : goal.loop-turn-preserved
loop-turn-preserved c =
    let m = c.args.market.now in
    let table = c.args.tentative.now in
    let ch = held_in_table table in
    let t = c.args.kind in
    let k = c.loop-turn.turn in
    let fill = c.loop-turn.fill.items in
    let here = ap (λ (xs : List ℕ). held_in_table table t (slice_index xs k)) (sym
    c.order-order.ensures.order) ∙ sym c.choice.ensures in
    elim c.match-choice.branch [
      | in-Some w ↦
          let p = w.in-Some.programme in
          let at = here ∙ w.in-Some.is in
          let x = c.requires.programmes k p c.loop-turn-test.true at in
          let l = local_lt m t p x.0 x.1 in
          let n = c.loop-turn.invariant.programmes in
          let e = w.local-number.ensures in
          let number = w.local-number.result in
          let v = get_or_read fill number w.index_mut.result.now (omega arith)
          w.index_mut.ensures.value 0 in
          subst (IsKeptFill m ch t (k + 1)) (sym (ap (λ (y : Vec ℕ Global). y.items) w.fill-is
          ∙ ap (λ (y : ℕ). set fill number (y + 1)) v ∙ ap (λ (y : ℕ). set fill y (slice_index fill
          y + 1)) e))
          (IsKeptFill-take m ch t k p fill x.0 x.1 at c.loop-turn.invariant)
      | in_default w ↦
          subst (IsKeptFill m ch t (k + 1)) (sym (ap (λ (y : Vec ℕ Global). y.items) w.fill-is))
          (IsKeptFill-pass m ch t k fill (here ∙ w.in_default.is) c.loop-turn.invariant)
    ]
