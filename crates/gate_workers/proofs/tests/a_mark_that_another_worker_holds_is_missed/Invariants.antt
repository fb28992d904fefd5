use Rattle.gate_workers.proofs.tests.a_mark_that_another_worker_holds_is_missed.Given as goal

abbrev pub ghosts-choices_at : goal.ghosts-choices_at
ghosts-choices_at g a = record { name = a.blank.name; parts = a.blank.parts }
