-- What a line file says: its records, the rules that a record may break, and the line of an accepted file.
use Rattle.std.specs.Prelude.{ℕ, ◌-◌, ℤ, pos, neg_ℤ, Bool, ◌==◌, ◌&&◌, not, if◌then◌else◌, List, [], ◌++◌, length, codes, Option, Some, None, Result, Ok, Err, is_some, unwrap_or, option_map, option_to_list, slice_get, slice_index}
use Rattle.std.specs.List.{filter_map}
use Rattle.std.specs.Option.{option_or}
use Rattle.std.specs.Str.{bytes_eq}
use Rattle.unit_rules.specs.Limits.{greatest_speed, longest_line}
use Rattle.unit_rules.specs.Numeral.{number_in, signed_in}
use Rattle.unit_rules.specs.declared.Zone.{Zone}
use Rattle.record_rules.specs.Faults.{first_fault}
use Rattle.record_rules.specs.Fields.{are_ordered, is_from, is_in, is_numeral, position_of}
use Rattle.record_rules.specs.Records.{Record, field, file_records}
use Rattle.record_rules.specs.Rules.{field_count, misspelled, out_of_order, out_of_range, repeated, unknown_kind}
use Rattle.line_tables.specs.declared.LineFault.{LineFault}
use Rattle.line_tables.specs.declared.LineFault.TheVariants.{Bad, Missing}
use Rattle.line_tables.specs.declared.kinds.Kind.{Kind}
use Rattle.line_tables.specs.declared.kinds.Kind.TheVariants.{Comment, Line, Gradient, Limit, Point}
use Rattle.line_tables.specs.declared.line.Slope.{Slope}
use Rattle.line_tables.specs.Names.{is_name}
use Rattle.line_tables.specs.Points.{find_point}
use Rattle.line_tables.specs.Line.{LineView}
use Rattle.line_tables.specs.Draft.{DraftView, line_with}

-- the kind of record that a first field names; 35 is `#`
abbrev pub kind_of : List ℕ → Option Kind
kind_of word =
    if slice_index word 0 == 35 then Some Comment
    else if bytes_eq word (codes "line") then Some Line
    else if bytes_eq word (codes "gradient") then Some Gradient
    else if bytes_eq word (codes "limit") then Some Limit
    else if bytes_eq word (codes "point") then Some Point
    else None

-- the name and the length that a record gives, where it is a `line` record
abbrev pub line_by : Option Kind → Record → Option (List ℕ × ℕ)
line_by (Some Line) r = option_map (λ n. (field r 1, n)) (number_in 2 longest_line (field r 2))
line_by _ r = None

-- the name and the length that a record gives, by its first field
abbrev pub line_of : Record → Option (List ℕ × ℕ)
line_of r = line_by (kind_of (field r 0)) r

-- the number of tenths of a per mille that a text is the numeral of
abbrev pub tenths_of : List ℕ → Option ℤ
tenths_of text = signed_in (neg_ℤ (pos 1000)) (pos 1000) text

-- the slope of three numbers, where each is one
abbrev pub slope_from : Option ℕ → Option ℕ → Option ℤ → Option Slope
slope_from (Some a) (Some b) (Some t) = Some (record { from = a; to = b; tenths = t })
slope_from (Some a) (Some b) None = None
slope_from (Some a) None t = None
slope_from None b t = None

-- the slope that a record gives, where it is a `gradient` record
abbrev pub slope_by : Option Kind → Record → Option Slope
slope_by (Some Gradient) r = slope_from (position_of (field r 1)) (position_of (field r 2)) (tenths_of (field r 3))
slope_by _ r = None

-- the slope that a record gives, by its first field
abbrev pub slope_of : Record → Option Slope
slope_of r = slope_by (kind_of (field r 0)) r

-- the zone of three numbers, where each is one
abbrev pub zone_from : Option ℕ → Option ℕ → Option ℕ → Option Zone
zone_from (Some a) (Some b) (Some w) = Some (record { from = a; to = b; kmh = w })
zone_from (Some a) (Some b) None = None
zone_from (Some a) None w = None
zone_from None b w = None

-- the zone that a record gives, where it is a `limit` record
abbrev pub zone_by : Option Kind → Record → Option Zone
zone_by (Some Limit) r = zone_from (position_of (field r 1)) (position_of (field r 2)) (number_in 1 greatest_speed (field r 3))
zone_by _ r = None

-- the zone that a record gives, by its first field
abbrev pub zone_of : Record → Option Zone
zone_of r = zone_by (kind_of (field r 0)) r

-- the name and the position that a record gives, where it is a `point` record
abbrev pub point_by : Option Kind → Record → Option (List ℕ × ℕ)
point_by (Some Point) r = option_map (λ n. (field r 2, n)) (position_of (field r 1))
point_by _ r = None

-- the name and the position that a record gives, by its first field
abbrev pub point_of : Record → Option (List ℕ × ℕ)
point_of r = point_by (kind_of (field r 0)) r

-- what records say: the first `line` record, and each `gradient`, `limit` and `point` record in order
abbrev pub draft_of : List Record → DraftView
draft_of before = record {
  line = slice_get (filter_map line_of before) 0;
  slopes = filter_map slope_of before;
  limits = filter_map zone_of before;
  points = filter_map point_of before;
}

-- what they say with one record more
abbrev pub with_record : DraftView → Record → DraftView
with_record d r = record {
  line = option_or d.line (line_of r);
  slopes = d.slopes ++ option_to_list (slope_of r);
  limits = d.limits ++ option_to_list (zone_of r);
  points = d.points ++ option_to_list (point_of r);
}

-- the greatest position: the line's length, or that of the longest line where there is no `line` record yet
abbrev pub last_position : DraftView → ℕ
last_position d = unwrap_or (option_map (λ l. l.1) d.line) longest_line

-- where the last `gradient` record ends, or 0 where there is none yet
abbrev pub slopes_end : DraftView → ℕ
slopes_end d = unwrap_or (option_map (λ s. s.to) (slice_get d.slopes (length d.slopes - 1))) 0

-- whether a text is the numeral of a position on the line
abbrev pub is_on : DraftView → List ℕ → Bool
is_on d text = is_in 0 (last_position d) text

-- the least rule that a `line` record breaks: it wants a name and a length, and no `line` record before it
abbrev pub line_rule : DraftView → Record → Option ℕ
line_rule d r =
    if not (length r == 3) then Some field_count
    else if not (is_name (field r 1) && is_numeral (field r 2)) then Some misspelled
    else if not (is_in 2 longest_line (field r 2)) then Some out_of_range
    else if is_some d.line then Some repeated
    else None

-- the least rule that a `gradient` record breaks: it wants three numbers, a `line` record before it, its ends in order,
-- and a beginning no earlier than the end of the `gradient` record before it
abbrev pub gradient_rule : DraftView → Record → Option ℕ
gradient_rule d r =
    if not (length r == 4) then Some field_count
    else if not (is_numeral (field r 1) && is_numeral (field r 2) && is_numeral (field r 3)) then Some misspelled
    else if not (is_on d (field r 1) && is_on d (field r 2) && is_some (tenths_of (field r 3))) then Some out_of_range
    else if not (is_some d.line && (are_ordered r && is_from (slopes_end d) (position_of (field r 1))))
    then Some out_of_order
    else None

-- the least rule that a `limit` record breaks: it wants three numbers, a `line` record before it, and its ends in order
abbrev pub limit_rule : DraftView → Record → Option ℕ
limit_rule d r =
    if not (length r == 4) then Some field_count
    else if not (is_numeral (field r 1) && is_numeral (field r 2) && is_numeral (field r 3)) then Some misspelled
    else if not (is_on d (field r 1) && is_on d (field r 2) && is_in 1 greatest_speed (field r 3)) then Some out_of_range
    else if not (is_some d.line && are_ordered r) then Some out_of_order
    else None

-- the least rule that a `point` record breaks: it wants a position and a name, a `line` record before it, and no point
-- of that name
abbrev pub point_rule : DraftView → Record → Option ℕ
point_rule d r =
    if not (length r == 3) then Some field_count
    else if not (is_numeral (field r 1) && is_name (field r 2)) then Some misspelled
    else if not (is_on d (field r 1)) then Some out_of_range
    else if not (is_some d.line) then Some out_of_order
    else if is_some (find_point (field r 2) d.points) then Some repeated
    else None

-- by the kind of record: a comment breaks no rule
abbrev pub rule_by : Option Kind → DraftView → Record → Option ℕ
rule_by None d r = Some unknown_kind
rule_by (Some Comment) d r = None
rule_by (Some Line) d r = line_rule d r
rule_by (Some Gradient) d r = gradient_rule d r
rule_by (Some Limit) d r = limit_rule d r
rule_by (Some Point) d r = point_rule d r

-- the least rule that a record breaks after the records before it
abbrev pub rule_after : DraftView → Record → Option ℕ
rule_after d r = rule_by (kind_of (field r 0)) d r

-- the first record of a file that breaks a rule, and the least rule that it breaks
abbrev pub file_fault : List ℕ → Option (ℕ × ℕ)
file_fault bytes = first_fault (λ before r. rule_after (draft_of before) r) [] (file_records bytes)

-- the line, if there was a record of it
abbrev pub finished_line : DraftView → Option LineView
finished_line d = option_map (line_with d) d.line

-- by the first fault and the line
abbrev pub reading_by : Option (ℕ × ℕ) → Option LineView → Result LineView LineFault
reading_by (Some f) l = Err (Bad f.0 f.1)
reading_by None (Some l) = Ok l
reading_by None None = Err Missing

-- what a file reads as: its first fault, or its line, which is missing where it has no `line` record
abbrev pub read_as_line : List ℕ → Result LineView LineFault
read_as_line bytes = reading_by (file_fault bytes) (finished_line (draft_of (file_records bytes)))
