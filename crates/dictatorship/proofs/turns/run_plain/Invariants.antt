use Rattle.std.proofs.Common.{◌≡◌, map}
use Rattle.std.specs.List.{range_with_len}
use Rattle.market.specs.Dictatorships.{choice, IsSeatsAt}
use Rattle.dictatorship.proofs.turns.run_plain.Given as goal

abbrev pub invariant-loop-turn : goal.invariant-loop-turn
invariant-loop-turn l = record {
  seats : IsSeatsAt l.dict l.turn l.seats.items;
  found : l.found.items ≡ map (choice l.dict) (range_with_len 0 l.turn);
}
