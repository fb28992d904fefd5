use Rattle.std.proofs.Common.{◌≡◌, ℕ, false, replicate, length, subst, arith}
use Rattle.std.proofs.lemmas.Grind.{common_steps}
use Rattle.interleaving_core.specs.declared.parts.Cell.TheVariants.{Empty}
use Rattle.interleaving_core.specs.Machines.{IsTeam}
use Rattle.interleaving_core.proofs.Machines.{team_kept}
use Rattle.interleaving_core.proofs.state.CoreState.open.Goals as goal

pub invariant_of-result : goal.invariant_of-result
invariant_of-result c =
    let workers = c.in_ok-workers.workers.items in
    let team : IsTeam c.args.workers (length c.args.dict.lists) workers =
    subst (λ (n : ℕ). IsTeam c.args.workers n workers) c.turns-turns.ensures.count
    (c.in_ok-workers.ensures {u = tt}) in
    let seats : c.in_ok-seats.seats.items ≡ c.args.dict.fill = c.in_ok-seats.ensures {u = tt} in
    let cells : c.in_ok-cells.cells.items ≡ replicate (length c.args.dict.lists) Empty =
    grind (arith, common_steps) in
    team_kept _ c.args.workers c.turns-turns.ensures.valid c.requires.few
    (λ k. record {
      claim_number = 0;
      mark_held = false;
      mark_number = 0;
      seats = seats k;
      cells = cells k;
      flags = c.in_ok-flags.ensures {u = tt} k;
      views = team.views k;
    }) team
