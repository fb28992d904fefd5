use Rattle.market.specs.Mechanism.{entries_left}
use Rattle.market.proofs.Plain.{IsRoundsUpto}
use Rattle.dictatorship.proofs.mechanism.mechanism_plain.Given as goal

abbrev pub invariant-rounds : goal.invariant-rounds
invariant-rounds l = IsRoundsUpto l.market l.rounds l.cuts l.total

abbrev pub decreases-rounds : goal.decreases-rounds
decreases-rounds l = entries_left l.market l.cuts
