-- What a plan file says: its records, the rules that a record may break, and the plan of an accepted file.
use Rattle.std.specs.Prelude.{ℕ, Bool, ◌==◌, ◌&&◌, not, nat_le, if◌then◌else◌, List, [], ◌++◌, length, codes, Option, Some, None, Result, Ok, Err, is_some, option_and_then, option_map, option_to_list, slice_get, slice_index}
use Rattle.std.specs.List.{filter_map}
use Rattle.std.specs.Option.{option_or}
use Rattle.std.specs.Str.{bytes_eq}
use Rattle.unit_rules.specs.Limits.{greatest_speed}
use Rattle.unit_rules.specs.Numeral.{number_in}
use Rattle.record_rules.specs.Faults.{first_fault}
use Rattle.record_rules.specs.Fields.{is_from, is_in, is_numeral, is_ordered}
use Rattle.record_rules.specs.Records.{Record, field, file_records}
use Rattle.record_rules.specs.Rules.{field_count, misspelled, no_such_point, out_of_order, out_of_range, repeated, too_many, unknown_kind}
use Rattle.line_tables.specs.Names.{is_name}
use Rattle.line_tables.specs.Points.{find_point}
use Rattle.line_tables.specs.Line.{LineView}
use Rattle.plan_tables.specs.declared.PlanFault.{PlanFault}
use Rattle.plan_tables.specs.declared.PlanFault.TheVariants.{Bad}
use Rattle.plan_tables.specs.declared.kinds.Kind.{Kind}
use Rattle.plan_tables.specs.declared.kinds.Kind.TheVariants.{Comment, Depart, Enter, Leave, Stop, Pass, Allow}
use Rattle.plan_tables.specs.declared.plan.AllowKind.{AllowKind}
use Rattle.plan_tables.specs.declared.plan.AllowKind.TheVariants.{Percent, Per100km, Fixed}
use Rattle.plan_tables.specs.declared.plan.Call.{Call}
use Rattle.plan_tables.specs.declared.plan.CallKind.{CallKind}
use Rattle.plan_tables.specs.declared.plan.CallKind.TheVariants as call
use Rattle.plan_tables.specs.declared.plan.Section.{Section}
use Rattle.plan_tables.specs.Draft.{DraftView, finished_plan, is_past, last_call, sections_end}
use Rattle.plan_tables.specs.Limits.{greatest_amount, latest_departure, longest_dwell, most_calls, most_sections}
use Rattle.plan_tables.specs.Plan.{PlanView}

-- the kind of record that a first field names; 35 is `#`
abbrev pub kind_of : List ℕ → Option Kind
kind_of word =
    if slice_index word 0 == 35 then Some Comment
    else if bytes_eq word (codes "depart") then Some Depart
    else if bytes_eq word (codes "enter") then Some Enter
    else if bytes_eq word (codes "leave") then Some Leave
    else if bytes_eq word (codes "stop") then Some Stop
    else if bytes_eq word (codes "pass") then Some Pass
    else if bytes_eq word (codes "allow") then Some Allow
    else None

-- the kind of allowance that a word names
abbrev pub allow_kind_of : List ℕ → Option AllowKind
allow_kind_of word =
    if bytes_eq word (codes "percent") then Some Percent
    else if bytes_eq word (codes "per100km") then Some Per100km
    else if bytes_eq word (codes "fixed") then Some Fixed
    else None

-- the departure that a record gives, where it is a `depart` record
abbrev pub depart_by : Option Kind → Record → Option ℕ
depart_by (Some Depart) r = number_in 0 latest_departure (field r 1)
depart_by _ r = None

-- the departure that a record gives, by its first field
abbrev pub depart_of : Record → Option ℕ
depart_of r = depart_by (kind_of (field r 0)) r

-- the speed that a record gives, where it is an `enter` record
abbrev pub enter_by : Option Kind → Record → Option ℕ
enter_by (Some Enter) r = number_in 0 greatest_speed (field r 1)
enter_by _ r = None

-- the speed on entering that a record gives, by its first field
abbrev pub enter_of : Record → Option ℕ
enter_of r = enter_by (kind_of (field r 0)) r

-- the speed that a record gives, where it is a `leave` record
abbrev pub leave_by : Option Kind → Record → Option ℕ
leave_by (Some Leave) r = number_in 0 greatest_speed (field r 1)
leave_by _ r = None

-- the speed on leaving that a record gives, by its first field
abbrev pub leave_of : Record → Option ℕ
leave_of r = leave_by (kind_of (field r 0)) r

-- the call at a point of that name, where there is one
abbrev pub call_from : Option ℕ → List ℕ → Option CallKind → Option Call
call_from (Some at) name (Some kind) = Some (record { at = at; name = name; kind = kind })
call_from (Some at) name None = None
call_from None name kind = None

-- the stop of a dwell that a text is the numeral of
abbrev pub stop_of : List ℕ → Option CallKind
stop_of text = option_map (λ dwell. call.Stop dwell) (number_in 0 longest_dwell text)

-- the call that a record gives, where it is a `stop` or a `pass` record
abbrev pub call_by : LineView → Option Kind → Record → Option Call
call_by line (Some Stop) r = call_from (find_point (field r 1) line.points) (field r 1) (stop_of (field r 2))
call_by line (Some Pass) r = call_from (find_point (field r 1) line.points) (field r 1) (Some call.Pass)
call_by line _ r = None

-- the call that a record gives, by its first field
abbrev pub call_of : LineView → Record → Option Call
call_of line r = call_by line (kind_of (field r 0)) r

-- the position on the line that a text is the numeral of
abbrev pub position_on : LineView → List ℕ → Option ℕ
position_on line text = number_in 0 line.length text

-- the amount of an allowance of that kind that a text is the numeral of
abbrev pub amount_of : Option AllowKind → List ℕ → Option ℕ
amount_of kind text = option_and_then (λ k. number_in 0 (greatest_amount k) text) kind

-- the section of two ends, a kind and an amount, where each is there
abbrev pub section_from : Option ℕ → Option ℕ → Option AllowKind → Option ℕ → Option Section
section_from (Some a) (Some b) (Some k) (Some n) = Some (record { from = a; to = b; kind = k; amount = n })
section_from (Some a) (Some b) (Some k) None = None
section_from (Some a) (Some b) None n = None
section_from (Some a) None k n = None
section_from None b k n = None

-- the section that a record gives, where it is an `allow` record
abbrev pub section_by : LineView → Option Kind → Record → Option Section
section_by line (Some Allow) r =
    section_from (position_on line (field r 1)) (position_on line (field r 2)) (allow_kind_of (field r 3)) (amount_of (allow_kind_of (field r 3)) (field r 4))
section_by line _ r = None

-- the section that a record gives, by its first field
abbrev pub section_of : LineView → Record → Option Section
section_of line r = section_by line (kind_of (field r 0)) r

-- what records say: the first `depart`, `enter` and `leave` record, and each `stop` and `pass` and each `allow` record
-- in order
abbrev pub draft_of : LineView → List Record → DraftView
draft_of line before = record {
  line = line;
  depart = slice_get (filter_map depart_of before) 0;
  enter = slice_get (filter_map enter_of before) 0;
  leave = slice_get (filter_map leave_of before) 0;
  calls = filter_map (call_of line) before;
  sections = filter_map (section_of line) before;
}

-- what they say with one record more
abbrev pub with_record : DraftView → Record → DraftView
with_record d r = record {
  line = d.line;
  depart = option_or d.depart (depart_of r);
  enter = option_or d.enter (enter_of r);
  leave = option_or d.leave (leave_of r);
  calls = d.calls ++ option_to_list (call_of d.line r);
  sections = d.sections ++ option_to_list (section_of d.line r);
}

-- the least rule that a record of one number breaks: it wants a number up to `most`, and no record of its kind before it
abbrev pub number_rule : ℕ → Option ℕ → Record → Option ℕ
number_rule most said r =
    if not (length r == 2) then Some field_count
    else if not (is_numeral (field r 1)) then Some misspelled
    else if not (is_in 0 most (field r 1)) then Some out_of_range
    else if is_some said then Some repeated
    else None

-- the least rule that a call at a point breaks: it wants a point, past the call before it, and room among the calls
abbrev pub call_rule : DraftView → Option ℕ → Option ℕ
call_rule d None = Some no_such_point
call_rule d (Some at) =
    if not (is_past (last_call d) at) then Some out_of_order
    else if nat_le most_calls (length d.calls) then Some too_many
    else None

-- the least rule that a `stop` record breaks: it wants a name, a dwell, and what a call wants of the point of that name
abbrev pub stop_rule : DraftView → Record → Option ℕ
stop_rule d r =
    if not (length r == 3) then Some field_count
    else if not (is_name (field r 1) && is_numeral (field r 2)) then Some misspelled
    else if not (is_in 0 longest_dwell (field r 2)) then Some out_of_range
    else call_rule d (find_point (field r 1) d.line.points)

-- the least rule that a `pass` record breaks: it wants a name, and what a call wants of the point of that name
abbrev pub pass_rule : DraftView → Record → Option ℕ
pass_rule d r =
    if not (length r == 2) then Some field_count
    else if not (is_name (field r 1)) then Some misspelled
    else call_rule d (find_point (field r 1) d.line.points)

-- whether a section between two positions may come next: they are in order, and the first is no earlier than the end of
-- the section before it
abbrev pub may_follow : DraftView → Option ℕ → Option ℕ → Bool
may_follow d from to = is_ordered from to && is_from (sections_end d) from

-- the least rule that an `allow` record breaks: it wants two positions on the line, a kind, an amount of that kind, ends
-- that may follow, and room among the sections
abbrev pub allow_rule : DraftView → Record → Option ℕ
allow_rule d r =
    if not (length r == 5) then Some field_count
    else if not (is_numeral (field r 1) && is_numeral (field r 2) && is_some (allow_kind_of (field r 3)) && is_numeral (field r 4)) then Some misspelled
    else if not (is_some (position_on d.line (field r 1)) && is_some (position_on d.line (field r 2)) && is_some (amount_of (allow_kind_of (field r 3)) (field r 4)))
    then Some out_of_range
    else if not (may_follow d (position_on d.line (field r 1)) (position_on d.line (field r 2))) then Some out_of_order
    else if nat_le most_sections (length d.sections) then Some too_many
    else None

-- by the kind of record: a kind is wanted, and a comment breaks no rule
abbrev pub rule_by : Option Kind → DraftView → Record → Option ℕ
rule_by None d r = Some unknown_kind
rule_by (Some Comment) d r = None
rule_by (Some Depart) d r = number_rule latest_departure d.depart r
rule_by (Some Enter) d r = number_rule greatest_speed d.enter r
rule_by (Some Leave) d r = number_rule greatest_speed d.leave r
rule_by (Some Stop) d r = stop_rule d r
rule_by (Some Pass) d r = pass_rule d r
rule_by (Some Allow) d r = allow_rule d r

-- the least rule that a record breaks after the records before it
abbrev pub rule_after : DraftView → Record → Option ℕ
rule_after d r = rule_by (kind_of (field r 0)) d r

-- the first record of a file that breaks a rule, and the least rule that it breaks
abbrev pub file_fault : LineView → List ℕ → Option (ℕ × ℕ)
file_fault line bytes = first_fault (λ before r. rule_after (draft_of line before) r) [] (file_records bytes)

-- by the first fault and the plan
abbrev pub reading_by : Option (ℕ × ℕ) → PlanView → Result PlanView PlanFault
reading_by (Some f) plan = Err (Bad f.0 f.1)
reading_by None plan = Ok plan

-- what a file reads as on a line: its first fault, or its plan
abbrev pub read_as_plan : LineView → List ℕ → Result PlanView PlanFault
read_as_plan line bytes = reading_by (file_fault line bytes) (finished_plan (draft_of line (file_records bytes)))
