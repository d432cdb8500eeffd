-- The text of a timetable.
use Rattle.std.specs.Prelude.{ℕ, ◌/◌, ◌%◌, zero, suc, List, [], ◌∷◌, ◌++◌, codes, length, Option, Some, None, ◌<◌, slice_get, slice_index_or}
use Rattle.std.specs.Fmt.{decimal}
use Rattle.std.specs.Option.{ForSome}
use Rattle.allowances.specs.declared.Row.{Row}
use Rattle.allowances.specs.declared.RowKind.{RowKind}
use Rattle.allowances.specs.declared.RowKind.TheVariants.{Start, Stop, Pass, End}
use Rattle.plan_tables.specs.Plan.{PlanView}
use Rattle.plan_tables.specs.declared.plan.Call.{Call}
use Rattle.time_brackets.specs.Sums.{no_time}

-- the word of a kind of row
abbrev pub kind_word : RowKind → List ℕ
kind_word Start = codes "start"
kind_word Stop = codes "stop"
kind_word Pass = codes "pass"
kind_word End = codes "end"

-- the name of a call that may not be there
abbrev pub call_name : Option Call → List ℕ
call_name None = []
call_name (Some c) = c.name

-- the name in a row: that of its call, or a dash where the row is none
abbrev pub row_name : PlanView → Option ℕ → List ℕ
row_name plan None = codes "-"
row_name plan (Some n) = call_name (slice_get plan.calls n)

-- two numbers, each with a space behind it
abbrev pub pair_text : ℕ → ℕ → List ℕ
pair_text a b = decimal a ++ codes " " ++ decimal b ++ codes " "

-- the parts of a row: its point, its kind and the arrival; the departure, and what is added and planned; and its name
abbrev pub arrival_part : Row → List ℕ
arrival_part r = decimal r.at ++ codes " " ++ kind_word r.kind ++ codes " " ++ pair_text r.arrive.lo r.arrive.hi

abbrev pub departure_part : Row → List ℕ
departure_part r = pair_text r.leave.lo r.leave.hi ++ pair_text r.added r.planned

abbrev pub name_part : PlanView → Row → List ℕ
name_part plan r = row_name plan r.call ++ codes "\n"

-- such a part by its number
abbrev pub row_part : PlanView → Row → ℕ → List ℕ
row_part plan r zero = arrival_part r
row_part plan r (suc zero) = departure_part r
row_part plan r (suc (suc n)) = name_part plan r

-- the line of a row
abbrev pub row_line : PlanView → Row → List ℕ
row_line plan r = arrival_part r ++ departure_part r ++ name_part plan r

-- the line of each row
abbrev pub timetable_text : PlanView → List Row → List ℕ
timetable_text plan [] = []
timetable_text plan (r ∷ rows) = row_line plan r ++ timetable_text plan rows

-- the call of a row, where it is one, is a call of the plan
abbrev pub IsCalled : PlanView → Row → Type 0
IsCalled plan r = ForSome r.call (λ n. n < length plan.calls)

-- the parts of all rows, one after another: three of each
abbrev pub no_row : Row
no_row = record { at = 0; kind = Start; arrive = no_time; leave = no_time; added = 0; planned = 0; call = None }

abbrev pub part_at : PlanView → List Row → ℕ → List ℕ
part_at plan rows place = row_part plan (slice_index_or rows (place / 3) no_row) (place % 3)
