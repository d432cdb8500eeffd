-- The rows of a timetable.
use Rattle.std.specs.Prelude.{ℕ, ◌+◌, ◌^◌, ◌<◌, ◌≤◌, List, [], ◌∷◌, ◌++◌, length, map, Option, Some, None}
use Rattle.std.specs.Int.{div_ceil}
use Rattle.std.specs.List.{enumerate_from}
use Rattle.plan_tables.specs.declared.plan.Call.{Call}
use Rattle.plan_tables.specs.declared.plan.CallKind.{CallKind}
use Rattle.plan_tables.specs.declared.plan.CallKind.TheVariants as call
use Rattle.plan_tables.specs.Plan.{PlanView}
use Rattle.allowances.specs.declared.Row.{Row}
use Rattle.allowances.specs.declared.RowKind.{RowKind}
use Rattle.allowances.specs.declared.RowKind.TheVariants.{Start, Stop, Pass, End}
use Rattle.allowances.specs.Allowances.{added_at}
use Rattle.allowances.specs.Arrivals.{arrival, dwell_of, later}

-- nanoseconds
abbrev pub millisecond : ℕ
millisecond = 1000000

-- when a train is planned to come to a point: the arrival in whole milliseconds, rounded up, and what the sections add there
abbrev pub planned_at : PlanView → List ℕ → ℕ → ℕ
planned_at plan e i = div_ceil (arrival plan e i).hi millisecond + added_at plan e i

-- the row at a point of a train that stands there for so many seconds
abbrev pub row_at : PlanView → List ℕ → ℕ → RowKind → ℕ → Option ℕ → Row
row_at plan e i kind dwell index = record {
  at = i;
  kind = kind;
  arrive = arrival plan e i;
  leave = later (arrival plan e i) dwell;
  added = added_at plan e i;
  planned = planned_at plan e i;
  call = index;
}

-- the row of a call is a stop or a pass, as the call is
abbrev pub row_kind : CallKind → RowKind
row_kind (call.Stop dwell) = Stop
row_kind call.Pass = Pass

-- the row of a call, by its index among the calls
abbrev pub call_row : PlanView → List ℕ → ℕ × Call → Row
call_row plan e p = row_at plan e p.1.at (row_kind p.1.kind) (dwell_of p.1.kind) (Some p.0)

-- the rows of a plan on a line of that length: the departure at point 0, each call in order, and the arrival at the line's end
abbrev pub rows_of : PlanView → ℕ → List ℕ → List Row
rows_of plan length e =
    (row_at plan e 0 Start 0 None ∷ map (call_row plan e) (enumerate_from 0 plan.calls)) ++ row_at plan e length End 0 None ∷ []

-- the times of a row are brackets, and all its numbers are below 2^63
pub record IsTimed (row : Row) : Type 0 where
  pub arrives : row.arrive.lo ≤ row.arrive.hi
  pub leaves : row.leave.lo ≤ row.leave.hi
  pub last : row.arrive.hi ≤ row.leave.hi
  pub short : row.leave.hi < 2 ^ 63
  pub added : row.added ≤ row.planned
  pub planned : row.planned < 2 ^ 63

-- how many rows that are, and how many sections the plan has
abbrev pub row_count : PlanView → ℕ
row_count plan = length plan.calls + 2

abbrev pub section_count : PlanView → ℕ
section_count plan = length plan.sections
