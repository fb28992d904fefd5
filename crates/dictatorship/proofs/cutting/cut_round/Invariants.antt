use Rattle.market.specs.Choices.{held_in_table}
use Rattle.market.proofs.Cutting.{IsCutUpto}
use Rattle.dictatorship.proofs.cutting.cut_round.Given as goal

abbrev pub invariant-loop-candidate : goal.invariant-loop-candidate
invariant-loop-candidate l =
    IsCutUpto l.market (held_in_table l.table) l.fn.cuts l.candidate l.cuts l.count
