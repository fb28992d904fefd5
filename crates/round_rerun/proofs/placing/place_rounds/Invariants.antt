use Rattle.std.proofs.Common.{◌≡◌, ◌+◌}
use Rattle.market.specs.Mechanism.{entries_left}
use Rattle.round_rerun.specs.Kept.{IsKept}
use Rattle.round_rerun.proofs.Replaying.{IsReplayUpto}
use Rattle.round_rerun.proofs.Several.{CutsSeveral}
use Rattle.round_rerun.proofs.placing.place_rounds.Given as goal

abbrev pub invariant-rounds : goal.invariant-rounds
invariant-rounds g l = record {
  replay : IsReplayUpto l.market l.rounds l.cuts l.total l.kept.table l.touched.first l.done;
  choices : IsKept l.market l.kept;
  several : CutsSeveral l.market l.kept.table l.cuts;
  steps : l.turns ≡ l.fn.turns + l.done;
}

abbrev pub decreases-rounds : goal.decreases-rounds
decreases-rounds g l = entries_left l.market l.cuts
