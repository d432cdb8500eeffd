-- When a train comes to the points of a line, and when it goes on.
use Rattle.std.specs.Prelude.{ℕ, ◌+◌, ◌*◌, List, Bool, nat_lt, filter, sum_by}
use Rattle.plan_tables.specs.declared.plan.Call.{Call}
use Rattle.plan_tables.specs.declared.plan.CallKind.{CallKind}
use Rattle.plan_tables.specs.declared.plan.CallKind.TheVariants.{Stop, Pass}
use Rattle.plan_tables.specs.Plan.{PlanView}
use Rattle.time_brackets.specs.Sums.{longest_at, shortest_at, sum_over}
use Rattle.time_brackets.specs.declared.Bracket.{Bracket}

-- the seconds that a train stands at a call: the dwell of a stop, and none at a pass
abbrev pub dwell_of : CallKind → ℕ
dwell_of (Stop dwell) = dwell
dwell_of Pass = 0

abbrev pub dwell_at : Call → ℕ
dwell_at c = dwell_of c.kind

-- whether a call comes before a point
abbrev pub is_before : ℕ → Call → Bool
is_before i c = nat_lt c.at i

-- the second of departure, and the dwells of the stops before a point
abbrev pub seconds_before : PlanView → ℕ → ℕ
seconds_before plan i = plan.depart + sum_by dwell_at (filter (is_before i) plan.calls)

-- nanoseconds
abbrev pub second : ℕ
second = 1000000000

-- both ends of a bracket, so many seconds later
abbrev pub later : Bracket → ℕ → Bracket
later times seconds = record { lo = times.lo + second * seconds; hi = times.hi + second * seconds }

-- the time from point 0 to a point over the cells between them, without dwells
abbrev pub running_time : List ℕ → ℕ → Bracket
running_time e i = record { lo = sum_over (shortest_at e) 0 i; hi = sum_over (longest_at e) 0 i }

-- when a train of squared speeds e comes to a point: the second of departure, the dwells of the stops before it, and the time
-- over the cells before it
abbrev pub arrival : PlanView → List ℕ → ℕ → Bracket
arrival plan e i = later (running_time e i) (seconds_before plan i)
