-- The rules of plan files at small files, computed from the definitions alone.
use Rattle.std.proofs.Common.{◌≡◌, Ok, Err, [], ◌∷◌, codes, refl}
use Rattle.csv.specs.Machine.{next_record}
use Rattle.csv.specs.Reading.{records_from, strip_bom}
use Rattle.std.specs.Str.{chars, is_utf8}
use lib.Utf8.{encode}
use Rattle.unit_rules.specs.Numeral.{whole_of}
use Rattle.record_rules.specs.Faults.{first_fault}
use Rattle.line_tables.specs.Line.{LineView}
use Rattle.plan_tables.specs.PlanFile.{read_as_plan}
use Rattle.plan_tables.specs.Plan.{empty_plan}
use Rattle.plan_tables.specs.declared.PlanFault.TheVariants.{Bad}
use Rattle.plan_tables.specs.declared.plan.AllowKind.TheVariants.{Percent, Per100km, Fixed}
use Rattle.plan_tables.specs.declared.plan.CallKind.TheVariants.{Stop, Pass}

abbrev ten : LineView
ten = record {
  name = codes "Ten";
  length = 10;
  slopes = [];
  limits = [];
  points = (codes "A", 5) ∷ (codes "B", 6) ∷ (codes "C", 5) ∷ (codes "Start", 0) ∷ (codes "End", 10) ∷ [];
}

no_bytes : read_as_plan ten (codes "") ≡ Ok empty_plan
unfolding next_record records_from strip_bom whole_of is_utf8 chars encode first_fault
no_bytes = refl

kind_unknown : read_as_plan ten (codes "halt,A,0\n") ≡ Err (Bad 1 1)
unfolding next_record records_from strip_bom whole_of is_utf8 chars encode first_fault
kind_unknown = refl

stop_without_dwell : read_as_plan ten (codes "stop,A\n") ≡ Err (Bad 1 2)
unfolding next_record records_from strip_bom whole_of is_utf8 chars encode first_fault
stop_without_dwell = refl

allowance_of_no_kind : read_as_plan ten (codes "allow,0,5,magic,1\n") ≡ Err (Bad 1 3)
unfolding next_record records_from strip_bom whole_of is_utf8 chars encode first_fault
allowance_of_no_kind = refl

dwell_too_long : read_as_plan ten (codes "stop,A,86401\n") ≡ Err (Bad 1 4)
unfolding next_record records_from strip_bom whole_of is_utf8 chars encode first_fault
dwell_too_long = refl

pass_behind_the_stop : read_as_plan ten (codes "stop,B,0\npass,A\n") ≡ Err (Bad 2 5)
unfolding next_record records_from strip_bom whole_of is_utf8 chars encode first_fault
pass_behind_the_stop = refl

calls_at_one_position : read_as_plan ten (codes "stop,A,0\npass,C\n") ≡ Err (Bad 2 5)
unfolding next_record records_from strip_bom whole_of is_utf8 chars encode first_fault
calls_at_one_position = refl

sections_overlap : read_as_plan ten (codes "allow,0,5,fixed,1\nallow,4,8,fixed,1\n") ≡ Err (Bad 2 5)
unfolding next_record records_from strip_bom whole_of is_utf8 chars encode first_fault
sections_overlap = refl

departure_repeated : read_as_plan ten (codes "depart,1\ndepart,2\n") ≡ Err (Bad 2 6)
unfolding next_record records_from strip_bom whole_of is_utf8 chars encode first_fault
departure_repeated = refl

no_point_of_that_name : read_as_plan ten (codes "stop,Nowhere,10\n") ≡ Err (Bad 1 7)
unfolding next_record records_from strip_bom whole_of is_utf8 chars encode first_fault
no_point_of_that_name = refl

range_before_name : read_as_plan ten (codes "stop,Nowhere,86401\n") ≡ Err (Bad 1 4)
unfolding next_record records_from strip_bom whole_of is_utf8 chars encode first_fault
range_before_name = refl

unknown_name_has_no_order : read_as_plan ten (codes "stop,B,0\nstop,Nowhere,0\n") ≡ Err (Bad 2 7)
unfolding next_record records_from strip_bom whole_of is_utf8 chars encode first_fault
unknown_name_has_no_order = refl

spelling_before_name : read_as_plan ten (codes "pass, Nowhere\n") ≡ Err (Bad 1 3)
unfolding next_record records_from strip_bom whole_of is_utf8 chars encode first_fault
spelling_before_name = refl

dwell_padded : read_as_plan ten (codes "stop,A,00\n") ≡ Err (Bad 1 3)
unfolding next_record records_from strip_bom whole_of is_utf8 chars encode first_fault
dwell_padded = refl

leave_repeated : read_as_plan ten (codes "leave,5\nenter,5\nleave,5\n") ≡ Err (Bad 3 6)
unfolding next_record records_from strip_bom whole_of is_utf8 chars encode first_fault
leave_repeated = refl

enter_too_fast : read_as_plan ten (codes "enter,501\n") ≡ Err (Bad 1 4)
unfolding next_record records_from strip_bom whole_of is_utf8 chars encode first_fault
enter_too_fast = refl

leave_below_zero : read_as_plan ten (codes "leave,-1\n") ≡ Err (Bad 1 4)
unfolding next_record records_from strip_bom whole_of is_utf8 chars encode first_fault
leave_below_zero = refl

section_past_the_line : read_as_plan ten (codes "allow,0,11,fixed,1\n") ≡ Err (Bad 1 4)
unfolding next_record records_from strip_bom whole_of is_utf8 chars encode first_fault
section_past_the_line = refl

section_of_nothing : read_as_plan ten (codes "allow,5,5,fixed,1\n") ≡ Err (Bad 1 5)
unfolding next_record records_from strip_bom whole_of is_utf8 chars encode first_fault
section_of_nothing = refl

percent_too_great : read_as_plan ten (codes "allow,0,10,percent,1001\n") ≡ Err (Bad 1 4)
unfolding next_record records_from strip_bom whole_of is_utf8 chars encode first_fault
percent_too_great = refl

seconds_each_100km_too_great : read_as_plan ten (codes "allow,0,10,per100km,3601\n") ≡ Err (Bad 1 4)
unfolding next_record records_from strip_bom whole_of is_utf8 chars encode first_fault
seconds_each_100km_too_great = refl

seconds_too_great : read_as_plan ten (codes "allow,0,10,fixed,86401\n") ≡ Err (Bad 1 4)
unfolding next_record records_from strip_bom whole_of is_utf8 chars encode first_fault
seconds_too_great = refl

comment_has_number : read_as_plan ten (codes "# x\ndepart,86401\n") ≡ Err (Bad 2 4)
unfolding next_record records_from strip_bom whole_of is_utf8 chars encode first_fault
comment_has_number = refl

pass_before_a_late_departure : read_as_plan ten (codes "pass,B\nallow,0,10,percent,0\ndepart,86400\n") ≡ Ok (record {
  depart = 86400;
  enter = 0;
  leave = 0;
  calls = record { at = 6; name = codes "B"; kind = Pass } ∷ [];
  sections = record { from = 0; to = 10; kind = Percent; amount = 0 } ∷ [];
})
unfolding next_record records_from strip_bom whole_of is_utf8 chars encode first_fault
pass_before_a_late_departure = refl

stops_at_both_ends : read_as_plan ten (codes "stop,Start,5\nstop,C,86400\nstop,End,0\n") ≡ Ok (record {
  depart = 0;
  enter = 0;
  leave = 0;
  calls = record { at = 0; name = codes "Start"; kind = Stop 5 } ∷ record { at = 5; name = codes "C"; kind = Stop 86400 } ∷ record { at = 10; name = codes "End"; kind = Stop 0 } ∷ [];
  sections = [];
})
unfolding next_record records_from strip_bom whole_of is_utf8 chars encode first_fault
stops_at_both_ends = refl

sections_meet : read_as_plan ten (codes "enter,1\nallow,0,5,per100km,3600\nleave,500\nallow,5,10,fixed,86400\n") ≡ Ok (record {
  depart = 0;
  enter = 1;
  leave = 500;
  calls = [];
  sections = record { from = 0; to = 5; kind = Per100km; amount = 3600 } ∷ record { from = 5; to = 10; kind = Fixed; amount = 86400 } ∷ [];
})
unfolding next_record records_from strip_bom whole_of is_utf8 chars encode first_fault
sections_meet = refl
