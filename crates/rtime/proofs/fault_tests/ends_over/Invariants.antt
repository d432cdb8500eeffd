use Rattle.rtime.proofs.fault_tests.ends_over.Given as goal

abbrev pub ghosts-start : goal.ghosts-start
ghosts-start a = record { name = a.blank.name; parts = a.blank.parts }
