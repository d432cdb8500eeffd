use Rattle.time_brackets.proofs.tests.compare.Given as goal

abbrev pub ghosts-time_to : goal.ghosts-time_to
ghosts-time_to g a = record { name = a.blank.name; parts = a.blank.parts }
