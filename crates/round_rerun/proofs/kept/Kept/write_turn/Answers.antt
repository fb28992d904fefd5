use Rattle.std.proofs.Common.{◌≡◌, ℕ, ◌+◌, ◌<◌, ◌∙◌, ap, sym, length, List, [], Option, arith, get_or, set, true}
use Rattle.std.specs.Prelude.{slice_get, slice_index, slice_index_or}
use Rattle.std.proofs.lemmas.List.{get_or_read, length-set}
use Rattle.market.specs.Problems.{order_of}
use Rattle.market.specs.Dictatorships.{Dictatorship}
use Rattle.market.proofs.Locals.{local-turns}
use Rattle.market.proofs.Replays.{kept_at}
use Rattle.round_rerun.specs.Kept.{whole_turn_list}
use Rattle.round_rerun.proofs.Keeping.{byte_pick, run-same, kept-write, unmarked-write}
use Rattle.round_rerun.proofs.kept.Kept.write_turn.Goals as goal

pub list-requires : goal.list-requires
list-requires c =
    let n = ap (λ (x : Dictatorship). length x.lists) c.requires.dict
    ∙ local-turns c.args.market.now c.args.cuts.now c.args.dict.now.fill c.args.kind
    c.args.from_turn in
    let l = c.requires.turn in
    omega arith

pub byte_of-byte-requires : goal.byte_of-byte-requires
byte_of-byte-requires c =
    let n = ap (λ (x : Dictatorship). length x.lists) c.requires.dict
    ∙ local-turns c.args.market.now c.args.cuts.now c.args.dict.now.fill c.args.kind
    c.args.from_turn in
    let l = c.requires.turn in
    let most = c.turns-candidate.ensures.valid.list_lengths c.args.turn (omega arith) in
    let e = ap (λ (xs : List ℕ). length xs) c.list.ensures in
    omega arith

pub returns-then-byte-clause-row : goal.returns-then-byte-clause-row
returns-then-byte-clause-row c =
    let m = c.args.market.now in
    let v = c.order-order.ensures.valid in
    let t = c.args.kind in
    let cuts = c.args.cuts.now in
    let at = c.args.from_turn + c.args.turn in
    let i = slice_index (order_of m t) at in
    let kept = c.args.self.now in
    let rows = c.requires.kept.rows in
    let row = get_or_read kept.chosen.items t c.index.result.now (omega (arith, c.requires.kind))
    c.index.ensures [] in
    let same = ap (λ (xs : List ℕ). slice_index xs at) (sym row) ∙ sym c.byte.ensures
    ∙ c.if-byte.true ∙ c.byte_of-byte.ensures in
    run-same m v cuts t at (slice_index_or kept.table t []) c.requires.kind c.requires.turn
    c.requires.row (c.requires.kept.each t at c.requires.kind c.requires.turn
    ∙ ap (slice_get (whole_turn_list m t i)) same
    ∙ sym (byte_pick m v cuts c.args.dict.now.fill t c.args.from_turn c.args.turn c.args.dict.now
    c.list.result.now c.args.place c.requires.kind c.requires.fill c.requires.dict
    c.requires.turn c.list.ensures c.requires.choice))

pub returns-clause-kept : goal.returns-clause-kept
returns-clause-kept c =
    let m = c.args.market.now in
    let v = c.order-order.ensures.valid in
    let t = c.args.kind in
    let cuts = c.args.cuts.now in
    let at = c.args.from_turn + c.args.turn in
    let i = slice_index (order_of m t) at in
    let kept = c.args.self.now in
    let rows = c.requires.kept.rows in
    let byte = c.byte_of-byte.result in
    let row = get_or_read kept.chosen.items t c.index_mut-chosen.result.now
    (omega (arith, c.requires.kind)) c.index_mut-chosen.ensures.value [] in
    kept-write m v kept _ t at byte c.requires.kept c.requires.kind c.requires.turn
    c.write_turn.ensures.types c.write_turn.ensures.others c.write_turn.ensures.rest
    (kept_at m v cuts c.write_turn.new.self t (at + 1) at c.requires.kind
    (omega (arith, c.requires.turn)) (omega arith) c.write_turn.ensures.row
    ∙ byte_pick m v cuts c.args.dict.now.fill t c.args.from_turn c.args.turn c.args.dict.now
    c.list.result.now c.args.place c.requires.kind c.requires.fill c.requires.dict
    c.requires.turn c.list.ensures c.requires.choice
    ∙ ap (slice_get (whole_turn_list m t i)) (sym c.byte_of-byte.ensures))
    (ap (set kept.chosen.items t)
    (c.write.ensures ∙ ap (λ (xs : List ℕ). set xs at byte) row))
    (length-set kept.changed.items (slice_index c.order-order.result.now at) true)

pub returns-clause-unmarked : goal.returns-clause-unmarked
returns-clause-unmarked c =
    let m = c.args.market.now in
    let t = c.args.kind in
    let at = c.args.from_turn + c.args.turn in
    let kept = c.args.self.now in
    let li = c.order-order.ensures.valid.order_entries t at c.requires.kind c.requires.turn in
    unmarked-write m kept.table c.write_turn.new.self kept.changed.items
    (set kept.changed.items (slice_index c.order-order.result.now at) true) t at
    c.requires.kept.marks c.requires.turn li c.write_turn.ensures.others c.write_turn.ensures.rest
    (ap (λ (xs : List ℕ). set kept.changed.items (slice_index xs at) true)
    c.order-order.ensures.order)
