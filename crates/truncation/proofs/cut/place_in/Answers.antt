use Rattle.std.proofs.Common.{length, sym, arith}
use Rattle.std.specs.Prelude.{slice_index, ◌==◌}
use Rattle.std.proofs.lemmas.Bool.{eq-eqb}
use Rattle.std.proofs.lemmas.List.Sums.{position_or_len_is}
use Rattle.truncation.proofs.cut.place_in.Goals as goal

pub returns : goal.returns
returns c =
    sym (position_or_len_is (λ y. y == c.args.programme) c.args.list.now (length c.args.list.now) 0
    (omega arith) (λ k l. c.loop-place.invariant k (omega arith)) (λ l. absurd (omega arith)))

pub returns-then-entry-programme : goal.returns-then-entry-programme
returns-then-entry-programme c =
    let list = c.args.list.now in
    sym (position_or_len_is (λ y. y == c.args.programme) list c.loop-place.place 0 (omega arith)
    c.loop-place.invariant
    (λ l. eq-eqb (slice_index list c.loop-place.place) c.args.programme
    c.if-entry-programme.true))
