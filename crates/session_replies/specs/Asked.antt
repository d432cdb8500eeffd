-- What a line of a session asks for, in a case.
use Rattle.std.specs.Prelude.{ℕ, ◌-◌, List, drop, take, Option, Some, None, Result, Ok, Err}
use Rattle.line_tables.specs.Points.{find_point}
use Rattle.restrictions.specs.Commands.{command_of}
use Rattle.restrictions.specs.Edits.{code_of_edit, code_of_line}
use Rattle.restrictions.specs.Force.{put_in, without, zone_of}
use Rattle.restrictions.specs.declared.commands.Command.{Command}
use Rattle.restrictions.specs.declared.commands.Command.TheVariants as command
use Rattle.restrictions.specs.declared.commands.CommandFault.{CommandFault}
use Rattle.restrictions.specs.declared.force.EditFault.{EditFault}
use Rattle.restrictions.specs.declared.force.EditFault.TheVariants.{Absent}
use Rattle.unit_rules.specs.declared.Zone.{Zone}
use Rattle.session_replies.specs.Cases.{CaseView}
use Rattle.session_replies.specs.declared.answers.Change.{Change}
use Rattle.session_replies.specs.declared.answers.Change.TheVariants as change

-- an edit that is accepted, with what it does, its zone and what is in force after it; when the train comes to a point; the speeds, the
-- timetable or the certificate of its run; or nothing, where the line is refused, by its code
pub data Asked : Type 0 where
  Edit : Change → Zone → List (List ℕ × Zone) → Asked
  Time : ℕ → Asked
  Speeds : Asked
  Timetable : Asked
  Certificate : Asked
  Refused : ℕ → Asked

-- the code of a `time` of a point that the line hasn't
abbrev pub unknown_point : ℕ
unknown_point = 7

-- what a `put` of a zone asks for, by what is in force after it
abbrev pub asked_put : Zone → Result (List (List ℕ × Zone)) EditFault → Asked
asked_put zone (Ok force) = Edit change.Put zone force
asked_put zone (Err fault) = Refused (code_of_edit fault)

-- what a `take` asks for, by the zone that it takes out and by what is in force without it
abbrev pub asked_take : Option Zone → List (List ℕ × Zone) → Asked
asked_take (Some zone) force = Edit change.Take zone force
asked_take None force = Refused (code_of_edit Absent)

-- what a `time` asks for, by the position of its point
abbrev pub asked_time : Option ℕ → Asked
asked_time (Some point) = Time point
asked_time None = Refused unknown_point

-- what a command asks for; the name of a `time` is some bytes of its line
abbrev pub asked_by : CaseView → List ℕ → Command → Asked
asked_by c line (command.Put id zone) = asked_put zone (put_in id zone c.force)
asked_by c line (command.Take id) = asked_take (zone_of id c.force) (without id c.force)
asked_by c line (command.Time start end) = asked_time (find_point (take (end - start) (drop start line)) c.line.points)
asked_by c line command.Envelope = Speeds
asked_by c line command.Timetable = Timetable
asked_by c line command.Cert = Certificate

-- what a line asks for, by the command that it is
abbrev pub asked_in : CaseView → List ℕ → Result Command CommandFault → Asked
asked_in c line (Ok command) = asked_by c line command
asked_in c line (Err fault) = Refused (code_of_line fault)

-- what a line asks for
abbrev pub asked : CaseView → List ℕ → Asked
asked c line = asked_in c line (command_of c.line.length line)

-- the case after it: an edit changes what is in force, and nothing else changes anything
abbrev pub case_after : CaseView → Asked → CaseView
case_after c (Edit change zone force) = record c { force = force }
case_after c _ = c
