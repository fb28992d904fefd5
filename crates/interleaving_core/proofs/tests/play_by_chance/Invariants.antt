use Rattle.std.proofs.Common.{◌≡◌, length}
use Rattle.interleaving_core.proofs.tests.play_by_chance.Given as goal

abbrev pub invariant-loop : goal.invariant-loop
invariant-loop l =
    record { workers : length l.state.core.views ≡ 3; dict : l.state.dict ≡ l.initial.state.dict }
