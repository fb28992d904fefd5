use Rattle.place_run.proofs.tests.counts_of.Given as goal

abbrev pub ghosts-counts_by : goal.ghosts-counts_by
ghosts-counts_by g a = record { name = a.blank.name; parts = a.blank.parts }
