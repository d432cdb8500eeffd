use Rattle.session_replies.proofs.tests.replies_so.Given as goal

abbrev pub ghosts-ending : goal.ghosts-ending
ghosts-ending g a = record { name = a.blank.name; parts = a.blank.parts }
