-- Calls of a plan: where a train stops, or passes.
use Rattle.std.specs.Prelude.{◌<◌, ◌≤◌, ⊤, Bool, true, false}
use Rattle.plan_tables.specs.declared.plan.Call.{Call}
use Rattle.plan_tables.specs.declared.plan.CallKind.{CallKind}
use Rattle.plan_tables.specs.declared.plan.CallKind.TheVariants.{Stop, Pass}
use Rattle.plan_tables.specs.Limits.{longest_dwell}

-- the dwell of a stop is in its range
abbrev pub IsCallKind : CallKind → Type 0
IsCallKind (Stop dwell) = dwell ≤ longest_dwell
IsCallKind Pass = ⊤

-- the second call comes past the first
abbrev pub ComesBefore : Call → Call → Type 0
ComesBefore a b = a.at < b.at

-- whether a kind of call is a stop
abbrev pub is_stop_kind : CallKind → Bool
is_stop_kind (Stop dwell) = true
is_stop_kind Pass = false

-- whether a call is a stop
abbrev pub is_stop : Call → Bool
is_stop c = is_stop_kind c.kind
