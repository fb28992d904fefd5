use Rattle.std.proofs.Common.{ℕ, ◌+◌, ◌∙◌, ap, sym, List, Option, None, arith, get_or, set}
use Rattle.std.specs.Prelude.{slice_index_or}
use Rattle.market.specs.Problems.{list_of, turn_of}
use Rattle.market.specs.Choices.{held_in_table}
use Rattle.market.specs.Reruns.{is_beyond, noted}
use Rattle.truncation.specs.Touches.{Touches}
use Rattle.truncation.proofs.cut.cut_after_best.Goals as goal

pub overflow_add-cut : goal.overflow_add-cut
overflow_add-cut c =
    let within = c.best_place-cut.ensures.within in
    let most = c.type_count-cut.ensures.valid.list_lengths c.args.candidate c.requires.candidate in
    omega arith

pub returns-clause-cuts : goal.returns-clause-cuts
returns-clause-cuts c =
    c.set.ensures ∙ ap (λ (x : ℕ). set c.args.cuts.now c.args.candidate (x + 1))
    c.best_place-cut.ensures.place

pub returns-clause-first : goal.returns-clause-first
returns-clause-first c = λ t l.
    let m = c.args.market.now in
    let k = c.args.candidate in
    ap (λ (xs : List (Option ℕ)). get_or xs t None) c.count_one.ensures.first
    ∙ c.note_types.ensures.first t l
    ∙ ap (λ (x : ℕ). noted (is_beyond (list_of m k) (x + 1)
    (held_in_table c.args.tentative.now t k)) (slice_index_or c.args.touched.now.first t None)
    (turn_of m t k)) c.best_place-cut.ensures.place
