use Rattle.std.proofs.Common.{sym, ap, ◌∙◌, subst, List, length}
use Rattle.word_rule.specs.Rounds.{AreNew, shares_of}
use Rattle.word_rule.specs.declared.seat.WorkSeat.{WorkSeat}
use Rattle.gate_workers.proofs.Teams.{whole, all_ready, team_over}
use Rattle.gate_workers.proofs.team.run_round.Goals as goal

pub run_all-requires-clause-ready : goal.run_all-requires-clause-ready
run_all-requires-clause-ready g c κs within =
    all_ready c.args.round c.as_mut_slice.result.now
    (subst (AreNew c.args.round) (sym c.as_mut_slice.ensures.value) c.requires.new)

pub join_all-last-requires-clause-all : goal.join_all-last-requires-clause-all
join_all-last-requires-clause-all g c =
    let value = c.as_mut_slice.ensures.value in
    let before = ap (λ (l : List WorkSeat). length l) value in
    let kept = c.run_all.auto.seats in
    let over = team_over c.args.round c.as_mut_slice.result.now c.run_all.new.seats
    (subst (AreNew c.args.round) (sym value) c.requires.new) kept c.run_all.ensures in
    let all = whole c.args.seats.len c.run_all.new.seats c.args.seats.items
    (kept ∙ before) c.args.seats.ok.0 in
    ap (λ (l : List WorkSeat). shares_of l) all
    ∙ (over.1 ∙ (kept ∙ (before ∙ c.requires.all)))
