-- Files of edits: commands, one a line, that put restrictions in force and take them out. 10 is the line feed (LF), and 13 the
-- carriage return (CR).
use Rattle.std.specs.Prelude.{ℕ, ◌+◌, Bool, ◌==◌, if◌then◌else◌, List, [], ◌∷◌, length, map, Result, Ok, Err}
use Rattle.std.specs.List.{slice_split}
use Rattle.std.specs.Result.{result_flatten, result_map_both}
use Rattle.std.specs.Str.Lines.{strip_carriage_return}
use Rattle.unit_rules.specs.declared.Zone.{Zone}
use Rattle.restrictions.specs.declared.commands.Command.{Command}
use Rattle.restrictions.specs.declared.commands.Command.TheVariants.{Put, Take}
use Rattle.restrictions.specs.declared.commands.CommandFault.{CommandFault}
use Rattle.restrictions.specs.declared.commands.CommandFault.TheVariants.{Long, NoCommand, Spelling}
use Rattle.restrictions.specs.declared.force.EditFault.{EditFault}
use Rattle.restrictions.specs.declared.force.EditFault.TheVariants as edit
use Rattle.restrictions.specs.declared.edits.EditsFault.{EditsFault}
use Rattle.restrictions.specs.declared.edits.EditsFault.TheVariants.{Bad}
use Rattle.restrictions.specs.Commands.{command_of}
use Rattle.restrictions.specs.Force.{put_in, take_from}

abbrev pub is_line_feed : ℕ → Bool
is_line_feed b = b == 10

-- the parts between LFs without the last, where that is empty
abbrev pub ended : List (List ℕ) → List (List ℕ)
ended [] = []
ended (part ∷ []) = if length part == 0 then [] else part ∷ []
ended (part ∷ next ∷ parts) = part ∷ ended (next ∷ parts)

-- the lines of a file: what stands before each LF, and what stands behind the last if there is anything; each without one CR
-- at its end
unfoldable pub lines_of : List ℕ → List (List ℕ)
lines_of bytes = map strip_carriage_return (ended (slice_split is_line_feed bytes))

-- the code of a line that is no command
abbrev pub code_of_line : CommandFault → ℕ
code_of_line Long = 1
code_of_line NoCommand = 2
code_of_line Spelling = 3

-- the code of an edit that is refused; want of memory, which no edit meets here, has none
abbrev pub code_of_edit : EditFault → ℕ
code_of_edit edit.Present = 4
code_of_edit edit.Absent = 5
code_of_edit edit.Full = 6
code_of_edit edit.Memory = 0

-- what is in force after a command, or the code why not: a command of a session that is no edit is no command here
abbrev pub commanded : Command → List (List ℕ × Zone) → Result (List (List ℕ × Zone)) ℕ
commanded (Put id zone) pairs = result_map_both (λ p. p) code_of_edit (put_in id zone pairs)
commanded (Take id) pairs = result_map_both (λ p. p) code_of_edit (take_from id pairs)
commanded _ pairs = Err (code_of_line NoCommand)

-- what is in force after a line, where zones lie on a line of that length, in metres; or the code of its fault
abbrev pub edited : ℕ → List ℕ → List (List ℕ × Zone) → Result (List (List ℕ × Zone)) ℕ
edited metres line pairs = result_flatten (result_map_both (λ command. commanded command pairs) code_of_line (command_of metres line))

-- what is in force after lines, of which the first has that number; or the number and the code of the first that has a code
unfoldable pub edited_by : ℕ → ℕ → List (List ℕ) → List (List ℕ × Zone) → Result (List (List ℕ × Zone)) EditsFault
edited_by metres place [] pairs = Ok pairs
edited_by metres place (line ∷ lines) pairs = result_flatten (result_map_both (edited_by metres (place + 1) lines) (Bad place) (edited metres line pairs))

-- what is in force after a file of edits, from nothing, or the file's fault
abbrev pub restrictions_in : ℕ → List ℕ → Result (List (List ℕ × Zone)) EditsFault
restrictions_in metres bytes = edited_by metres 1 (lines_of bytes) []
