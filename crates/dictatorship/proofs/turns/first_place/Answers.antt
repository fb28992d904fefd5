use Rattle.std.proofs.Common.{slice_index, nat_lt, length, sym, arith}
use Rattle.std.proofs.lemmas.Bool.{lt-ltb}
use Rattle.std.proofs.lemmas.List.Sums.{position_or_len_is}
use Rattle.dictatorship.proofs.turns.first_place.Goals as goal

pub returns-then-seats-programme : goal.returns-then-seats-programme
returns-then-seats-programme c =
    let seats = c.args.seats.now in
    let list = c.args.list.now in
    let n = c.loop-place.place in
    sym (position_or_len_is (λ p. nat_lt (slice_index seats p)
    (slice_index c.args.dict.now.quota p)) list n 0 (omega arith) c.loop-place.invariant
    (λ l. lt-ltb _ _ (omega arith)))

pub returns : goal.returns
returns c =
    let list = c.args.list.now in
    sym (position_or_len_is (λ p. nat_lt (slice_index c.args.seats.now p)
    (slice_index c.args.dict.now.quota p)) list (length list) 0 (omega arith)
    (λ k l. c.loop-place.invariant k (omega arith)) (λ l. absurd (omega arith)))
