use Rattle.dictatorship.proofs.tests.one_cut_leads_to_the_next.Given as goal

abbrev pub ghosts-placed : goal.ghosts-placed
ghosts-placed g a = record { name = a.blank.name; parts = a.blank.parts }
