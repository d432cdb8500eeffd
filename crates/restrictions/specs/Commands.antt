-- Commands: what a line of a session or of a file of edits says.
use Rattle.std.specs.Prelude.{ℕ, ◌<◌, ◌≤◌, nat_lt, if◌then◌else◌, List, [], ◌∷◌, length, codes, Option, Some, None, Result, Ok, Err, option_map}
use Rattle.std.specs.Option.{ok_or}
use Rattle.std.specs.Str.{bytes_eq}
use Rattle.unit_rules.specs.Limits.{greatest_speed}
use Rattle.unit_rules.specs.Numeral.{number_in}
use Rattle.unit_rules.specs.Zone.{LiesOn}
use Rattle.unit_rules.specs.declared.Zone.{Zone}
use Rattle.restrictions.specs.declared.commands.Command.{Command}
use Rattle.restrictions.specs.declared.commands.Command.TheVariants.{Put, Take, Time, Envelope, Timetable, Cert}
use Rattle.restrictions.specs.declared.commands.CommandFault.{CommandFault}
use Rattle.restrictions.specs.declared.commands.CommandFault.TheVariants.{Long, NoCommand, Spelling}
use Rattle.restrictions.specs.Ids.{is_id}
use Rattle.restrictions.specs.Words.{rest_end, rest_start, words_of}

-- the most bytes of a line
abbrev pub most_bytes : ℕ
most_bytes = 200

-- the ID that a word is
abbrev pub id_of : List ℕ → Option (List ℕ)
id_of word = if is_id word then Some word else None

-- the zone of three numbers, where each is one and it ends behind its beginning
abbrev pub zone_from : Option ℕ → Option ℕ → Option ℕ → Option Zone
zone_from (Some from) (Some to) (Some kmh) = if nat_lt from to then Some (record { from = from; to = to; kmh = kmh }) else None
zone_from (Some from) (Some to) None = None
zone_from (Some from) None kmh = None
zone_from None to kmh = None

-- the zone on a line of that length, in metres, that three words are the numerals of
abbrev pub zone_of_words : ℕ → List ℕ → List ℕ → List ℕ → Option Zone
zone_of_words metres from to kmh = zone_from (number_in 0 metres from) (number_in 0 metres to) (number_in 1 greatest_speed kmh)

-- a `put` of an ID and a zone, where each is one
abbrev pub put_with : Option (List ℕ) → Option Zone → Result Command CommandFault
put_with (Some id) (Some zone) = Ok (Put id zone)
put_with (Some id) None = Err Spelling
put_with None z = Err Spelling

-- what the words behind `put` say: an ID and the three numbers of a zone
abbrev pub put_of : ℕ → List (List ℕ) → Result Command CommandFault
put_of metres (id ∷ from ∷ to ∷ kmh ∷ []) = put_with (id_of id) (zone_of_words metres from to kmh)
put_of metres _ = Err NoCommand

-- what the words behind `take` say: an ID
abbrev pub take_of : List (List ℕ) → Result Command CommandFault
take_of (id ∷ []) = ok_or (option_map (λ i. Take i) (id_of id)) Spelling
take_of _ = Err NoCommand

-- what a line says whose first word is `time`: all behind it is a name, without the spaces about it
abbrev pub time_of : List ℕ → List (List ℕ) → Result Command CommandFault
time_of line [] = Err NoCommand
time_of line _ = Ok (Time (rest_start line) (rest_end line))

-- a command of one word
abbrev pub alone : Command → List (List ℕ) → Result Command CommandFault
alone command [] = Ok command
alone command _ = Err NoCommand

-- what a line of these words says, by the first of them
abbrev pub command_in : ℕ → List ℕ → List (List ℕ) → Result Command CommandFault
command_in metres line [] = Err NoCommand
command_in metres line (word ∷ words) =
    if bytes_eq word (codes "put") then put_of metres words
    else if bytes_eq word (codes "take") then take_of words
    else if bytes_eq word (codes "time") then time_of line words
    else if bytes_eq word (codes "envelope") then alone Envelope words
    else if bytes_eq word (codes "timetable") then alone Timetable words
    else if bytes_eq word (codes "cert") then alone Cert words
    else Err NoCommand

-- the command that a line is, where zones lie on a line of that length, in metres; or what is wrong with it
unfoldable pub command_of : ℕ → List ℕ → Result Command CommandFault
command_of metres line = if nat_lt most_bytes (length line) then Err Long else command_in metres line (words_of line)

-- the zone of a command lies on a line of that length, in metres, and its name is some bytes of the command's own line
abbrev pub IsOn : ℕ → List ℕ → Command → Type 0
IsOn metres line (Put id zone) = LiesOn metres zone
IsOn metres line (Time start end) = (start < end) × (end ≤ length line)
IsOn metres line _ = Unit {0}
