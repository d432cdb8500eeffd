use Rattle.incr_envelope.proofs.tests.a_stall_moves.Given as goal

abbrev pub ghosts-stalls : goal.ghosts-stalls
ghosts-stalls g a = record { name = a.blank.name; parts = a.blank.parts }
