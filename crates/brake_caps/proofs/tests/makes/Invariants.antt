use Rattle.brake_caps.proofs.tests.makes.Given as goal

abbrev pub ghosts-brake : goal.ghosts-brake
ghosts-brake g a = record { name = a.blank.name; parts = a.blank.parts }
