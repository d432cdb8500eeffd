-- What the sections of a plan add to the running time, in milliseconds.
use Rattle.std.specs.Prelude.{ℕ, ◌-◌, ◌*◌, ◌/◌, nat_le, if◌then◌else◌, List, sum_by}
use Rattle.std.specs.Int.{div_ceil}
use Rattle.plan_tables.specs.declared.plan.AllowKind.{AllowKind}
use Rattle.plan_tables.specs.declared.plan.AllowKind.TheVariants.{Percent, Per100km, Fixed}
use Rattle.plan_tables.specs.declared.plan.Section.{Section}
use Rattle.plan_tables.specs.Plan.{PlanView}
use Rattle.time_brackets.specs.Sums.{longest_at, sum_over}

-- the longest time over the cells of a section, in nanoseconds, without dwells
abbrev pub section_time : List ℕ → Section → ℕ
section_time e s = sum_over (longest_at e) s.from (s.to - s.from)

-- the same over those of its cells that lie before a point
abbrev pub time_so_far : List ℕ → Section → ℕ → ℕ
time_so_far e s i = sum_over (longest_at e) s.from (i - s.from)

-- what an allowance of an amount comes to, over so many metres and nanoseconds: tenths of a percent of the time, seconds for
-- each 100 km, or seconds
abbrev pub amount_by : AllowKind → ℕ → ℕ → ℕ → ℕ
amount_by Percent amount metres time = div_ceil (time * amount) 1000000000
amount_by Per100km amount metres time = div_ceil (metres * amount) 100
amount_by Fixed amount metres time = amount * 1000

-- what a section adds in all
abbrev pub amount_of : List ℕ → Section → ℕ
amount_of e s = amount_by s.kind s.amount (s.to - s.from) (section_time e s)

-- what a section adds at a point: nothing up to its beginning, in it the share of the time so far, and all from its end on
abbrev pub added_by : List ℕ → ℕ → Section → ℕ
added_by e i s =
    if nat_le i s.from then 0
    else if nat_le s.to i then amount_of e s
    else amount_of e s * time_so_far e s i / section_time e s

-- what all sections of a plan add at a point
abbrev pub added_at : PlanView → List ℕ → ℕ → ℕ
added_at plan e i = sum_by (added_by e i) plan.sections

-- the most that a section can add, in milliseconds: a hundred percent of a whole line at twelve minutes a metre
abbrev pub most_added : ℕ
most_added = 360000000000
