use Rattle.std.proofs.Common.{ℕ, ◌∙◌, ap, sym, length, arith}
use Rattle.std.specs.List.{position_or_len}
use Rattle.std.proofs.lemmas.List.Sums.{position_or_len_is}
use Rattle.market.specs.Counting.{is_programme}
use Rattle.market.specs.Problems.{kind_of}
use Rattle.market.specs.Choices.{held_in_table}
use Rattle.market.specs.Mechanism.{best_in}
use Rattle.market.proofs.tentative.Tentative.best_place.Goals as goal

pub returns-then-has-clause-place : goal.returns-then-has-clause-place
unfolding best_in
returns-then-has-clause-place c =
    let m = c.args.market.now in
    let list = c.list-list.result.now in
    let f = λ (p : ℕ). is_programme p
    (held_in_table c.args.self.now (kind_of m p) c.args.candidate) in
    sym (position_or_len_is f list c.loop-place.place 0 (omega arith) c.loop-place.invariant
    (λ l. sym c.has.ensures ∙ c.if-has.true)) ∙ ap (position_or_len f) c.list-list.ensures.list

pub returns-clause-place : goal.returns-clause-place
unfolding best_in
returns-clause-place c =
    let m = c.args.market.now in
    let list = c.list-list.result.now in
    let f = λ (p : ℕ). is_programme p
    (held_in_table c.args.self.now (kind_of m p) c.args.candidate) in
    sym (position_or_len_is f list (length list) 0 (omega arith)
    (λ k l. c.loop-place.invariant k (omega arith)) (λ l. absurd (omega arith)))
    ∙ ap (position_or_len f) c.list-list.ensures.list
