use Rattle.step_rule.proofs.tests.brakes_on_the_level.Given as goal

abbrev pub ghosts-back : goal.ghosts-back
ghosts-back g a = record { name = a.blank.name; parts = a.blank.parts }
