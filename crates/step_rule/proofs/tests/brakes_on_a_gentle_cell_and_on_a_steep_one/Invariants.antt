use Rattle.step_rule.proofs.tests.brakes_on_a_gentle_cell_and_on_a_steep_one.Given as goal

abbrev pub ghosts-stopped : goal.ghosts-stopped
ghosts-stopped g a = record { name = a.blank.name; parts = a.blank.parts }
