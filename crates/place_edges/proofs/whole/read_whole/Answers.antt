use Rattle.std.proofs.Common.{◌∙◌, ap, arith, Err}
use Rattle.std.proofs.lemmas.Result.{err_from_is_err_and}
use Rattle.place_edges.proofs.Tallies.{tally_failed, tally_long, tally_refused}
use Rattle.place_edges.proofs.whole.read_whole.Goals as goal

pub returns-in_err-open-clause-tally : goal.returns-in_err-open-clause-tally
returns-in_err-open-clause-tally g c =
    let exit = err_from_is_err_and c.from_residual.result c.from_residual.ensures.1 in
    let same = c.open.ensures.tally in
    tally_failed c.from_residual.result _ _ 0 (exit.1 ∙ ap Err exit.2) (omega arith) (omega arith)

pub returns-in_err-count-clause-tally : goal.returns-in_err-count-clause-tally
returns-in_err-count-clause-tally g c =
    let stop = c.from_residual-in_err-count in
    let exit = err_from_is_err_and stop.result stop.ensures.1 in
    tally_failed stop.result _ _ _ (exit.1 ∙ ap Err exit.2)
    (c.in_err-count.ensures.tally ∙ c.pieces.invariant.tally)
    c.pieces.invariant.few

pub returns-then-count-len-clause-tally : goal.returns-then-count-len-clause-tally
returns-then-count-len-clause-tally g c =
    let bound = c.in_ok-count.ensures.bound in
    tally_long _ _ _ _ _ c.pieces.invariant.tally c.in_ok-count.ensures.tally
    c.pieces.invariant.few
    (omega arith)
    (omega arith)

pub returns-in_err-extend_from_slice-clause-tally :
    goal.returns-in_err-extend_from_slice-clause-tally
returns-in_err-extend_from_slice-clause-tally g c =
    let stop = c.from_residual-in_err-extend_from_slice in
    let exit = err_from_is_err_and stop.result stop.ensures.1 in
    let few = c.pieces.invariant.few in
    tally_refused stop.result _ _ _ _ _ (exit.1 ∙ ap Err exit.2)
    c.pieces.invariant.tally
    c.in_ok-count.ensures.tally
    (omega arith)
    (omega arith)
