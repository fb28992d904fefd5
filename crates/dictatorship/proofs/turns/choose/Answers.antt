use Rattle.std.proofs.Common.{◌≡◌, ℕ, ◌+◌, length, slice_index, slice_set, sym, ap, ◌∙◌, subst, arith, List}
use Rattle.std.specs.List.{position_or_len}
use Rattle.market.specs.Dictatorships.{IsSeatsAt, list_at}
use Rattle.market.proofs.Seats.{has_room, place-choice, room-at, seats-take, seats-pass, place-small}
use Rattle.dictatorship.proofs.turns.choose.Goals as goal

pub overflow_cast-result : goal.overflow_cast-result
overflow_cast-result c =
    let d = c.args.dict.now in
    let f = has_room d c.args.seats.now in
    let s = place-small d c.args.turn f c.requires.valid c.requires.turn in
    let e : c.first_place-place.result ≡ position_or_len f (list_at d c.args.turn) =
    c.first_place-place.ensures ∙ ap (position_or_len f) c.list-list.ensures in
    omega arith

pub returns-then-place-list-clause-choice : goal.returns-then-place-list-clause-choice
returns-then-place-list-clause-choice c =
    let d = c.args.dict.now in
    let f = has_room d c.args.seats.now in
    place-choice d c.args.turn _ c.args.seats.now c.requires.valid c.requires.turn c.requires.seats
    (c.first_place-place.ensures ∙ ap (position_or_len f) c.list-list.ensures)

pub returns-then-place-list-clause-seats : goal.returns-then-place-list-clause-seats
returns-then-place-list-clause-seats c =
    let d = c.args.dict.now in
    let f = has_room d c.args.seats.now in
    let n = ap (λ (xs : List ℕ). length xs) c.list-list.ensures in
    let picks =
    place-choice d c.args.turn _ c.args.seats.now c.requires.valid c.requires.turn
    c.requires.seats (c.first_place-place.ensures
    ∙ ap (position_or_len f) c.list-list.ensures) in
    seats-pass d c.args.turn c.first_place-place.result c.args.seats.now c.requires.seats picks
    (omega arith)

pub overflow_add-seats : goal.overflow_add-seats
overflow_add-seats c =
    let d = c.args.dict.now in
    let f = has_room d c.args.seats.now in
    let n = ap (λ (xs : List ℕ). length xs) c.list-list.ensures in
    let place = c.first_place-place.result in
    let x = ap (λ (xs : List ℕ). slice_index xs place) c.list-list.ensures in
    let y = ap (slice_index c.args.seats.now) x in
    let r = room-at d c.args.turn place c.args.seats.now
    (c.first_place-place.ensures ∙ ap (position_or_len f) c.list-list.ensures) (omega arith) in
    let within = c.requires.valid.list_entries c.args.turn place c.requires.turn (omega arith) in
    let q = c.requires.valid.quotas (slice_index (list_at d c.args.turn) place) within in
    omega arith

pub returns-clause-choice : goal.returns-clause-choice
returns-clause-choice c =
    let d = c.args.dict.now in
    let f = has_room d c.args.seats.now in
    place-choice d c.args.turn _ c.args.seats.now c.requires.valid c.requires.turn c.requires.seats
    (c.first_place-place.ensures ∙ ap (position_or_len f) c.list-list.ensures)

pub returns-clause-seats : goal.returns-clause-seats
returns-clause-seats c =
    let d = c.args.dict.now in
    let f = has_room d c.args.seats.now in
    let n = ap (λ (xs : List ℕ). length xs) c.list-list.ensures in
    let place = c.first_place-place.result in
    let picks =
    place-choice d c.args.turn _ c.args.seats.now c.requires.valid c.requires.turn
    c.requires.seats (c.first_place-place.ensures
    ∙ ap (position_or_len f) c.list-list.ensures) in
    subst (λ (xs : List ℕ). IsSeatsAt d (c.args.turn + 1)
    (slice_set c.args.seats.now (slice_index xs place)
    (slice_index c.args.seats.now (slice_index xs place) + 1))) (sym c.list-list.ensures)
    (seats-take d c.args.turn place c.args.seats.now c.requires.valid c.requires.turn
    c.requires.seats picks (omega arith))
