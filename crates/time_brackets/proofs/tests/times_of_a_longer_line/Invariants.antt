use Rattle.time_brackets.proofs.tests.times_of_a_longer_line.Given as goal

abbrev pub ghosts-summed : goal.ghosts-summed
ghosts-summed g a = record { name = a.blank.name; parts = a.blank.parts }

abbrev pub ghosts-change : goal.ghosts-change
ghosts-change g a = record { name = a.blank.name; parts = a.blank.parts }
