use Rattle.session_replies.proofs.tests.sums_so.Given as goal

abbrev pub ghosts-summed : goal.ghosts-summed
ghosts-summed g a = record { name = a.blank.name; parts = a.blank.parts }
