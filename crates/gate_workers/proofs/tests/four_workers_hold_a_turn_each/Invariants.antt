use Rattle.gate_workers.proofs.tests.four_workers_hold_a_turn_each.Given as goal

abbrev pub ghosts-four_choices : goal.ghosts-four_choices
ghosts-four_choices g a = record { name = a.blank.name; parts = a.blank.parts }
