use Rattle.effort_run.proofs.tests.runs_over_a_hill_that_slows_more_than_the_brakes.Given as goal

abbrev pub ghosts-walk_over : goal.ghosts-walk_over
ghosts-walk_over g a = record { name = a.blank.name; parts = a.blank.parts }
