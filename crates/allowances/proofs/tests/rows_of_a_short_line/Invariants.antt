use Rattle.allowances.proofs.tests.rows_of_a_short_line.Given as goal

abbrev pub ghosts-timetable : goal.ghosts-timetable
ghosts-timetable g a = record { name = a.blank.name; parts = a.blank.parts }
