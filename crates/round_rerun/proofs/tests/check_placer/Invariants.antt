use Rattle.round_rerun.proofs.tests.check_placer.Given as goal

abbrev pub ghosts-placed : goal.ghosts-placed
ghosts-placed g a = record { name = a.blank.name; parts = a.blank.parts }
