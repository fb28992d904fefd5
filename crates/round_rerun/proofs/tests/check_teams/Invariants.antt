use Rattle.round_rerun.proofs.tests.check_teams.Given as goal

abbrev pub ghosts-outcome_of : goal.ghosts-outcome_of
ghosts-outcome_of g a = record { name = a.blank.name; parts = a.blank.parts }
