use Rattle.gate_workers.proofs.tests.one_worker_comes_to_each_point_in_order.Given as goal

abbrev pub ghosts-choices_at : goal.ghosts-choices_at
ghosts-choices_at g a = record { name = a.blank.name; parts = a.blank.parts }
