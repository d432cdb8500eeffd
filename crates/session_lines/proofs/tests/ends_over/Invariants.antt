use Rattle.session_lines.proofs.tests.ends_over.Given as goal

abbrev pub ghosts-ending : goal.ghosts-ending
ghosts-ending a = record { name = a.blank.name; parts = a.blank.parts }
