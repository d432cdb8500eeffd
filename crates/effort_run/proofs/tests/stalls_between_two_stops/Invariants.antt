use Rattle.effort_run.proofs.tests.stalls_between_two_stops.Given as goal

abbrev pub ghosts-walk_over : goal.ghosts-walk_over
ghosts-walk_over g a = record { name = a.blank.name; parts = a.blank.parts }
