use Rattle.time_brackets.proofs.tests.times_of_a_short_line.Given as goal

abbrev pub ghosts-summed : goal.ghosts-summed
ghosts-summed g a = record { name = a.blank.name; parts = a.blank.parts }
