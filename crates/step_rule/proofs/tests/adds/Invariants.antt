use Rattle.step_rule.proofs.tests.adds.Given as goal

abbrev pub ghosts-bounds : goal.ghosts-bounds
ghosts-bounds a = record { name = a.blank.name; parts = a.blank.parts }
