use Rattle.place_run.proofs.tests.made_markets.plain_counts.Given as goal

abbrev pub ghosts-plain_counts_by : goal.ghosts-plain_counts_by
ghosts-plain_counts_by g a = record { name = a.blank.name; parts = a.blank.parts }
