use Rattle.effort_run.proofs.tests.runs_with_no_stop_on_the_way.Given as goal

abbrev pub ghosts-walk_over : goal.ghosts-walk_over
ghosts-walk_over g a = record { name = a.blank.name; parts = a.blank.parts }
