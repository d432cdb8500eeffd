-- The greatest numbers of a plan file.
use Rattle.std.specs.Prelude.{ℕ}
use Rattle.plan_tables.specs.declared.plan.AllowKind.{AllowKind}
use Rattle.plan_tables.specs.declared.plan.AllowKind.TheVariants.{Percent, Per100km, Fixed}

-- the latest departure, in seconds from the plan's zero of time
abbrev pub latest_departure : ℕ
latest_departure = 86400

-- the longest dwell at a stop, in seconds
abbrev pub longest_dwell : ℕ
longest_dwell = 86400

-- the greatest amount of an allowance: in tenths of a percent, in seconds each 100 km, or in seconds
abbrev pub greatest_amount : AllowKind → ℕ
greatest_amount Percent = 1000
greatest_amount Per100km = 3600
greatest_amount Fixed = 86400

-- the most stops and passes of a plan
abbrev pub most_calls : ℕ
most_calls = 1000

-- the most sections of a plan
abbrev pub most_sections : ℕ
most_sections = 1000
