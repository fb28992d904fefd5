use Rattle.market.specs.Choices.{held_in_table}
use Rattle.market.specs.Reruns.{IsKeptFill}
use Rattle.round_rerun.proofs.rerun.kept_fill.Given as goal

abbrev pub invariant-loop-turn : goal.invariant-loop-turn
invariant-loop-turn l = IsKeptFill l.market (held_in_table l.tentative) l.kind l.turn l.fill.items
