use Rattle.step_rule.proofs.tests.effort_at_a_standstill_alone.Given as goal

abbrev pub ghosts-bounds : goal.ghosts-bounds
ghosts-bounds g a = record { name = a.blank.name; parts = a.blank.parts }
