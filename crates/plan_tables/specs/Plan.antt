-- What contracts see of a plan.
use Rattle.std.specs.Prelude.{ℕ, ◌≤◌, List, [], length, All, AllPairs}
use Rattle.unit_rules.specs.Limits.{greatest_speed}
use Rattle.plan_tables.specs.declared.plan.Call.{Call}
use Rattle.plan_tables.specs.declared.plan.Section.{Section}
use Rattle.plan_tables.specs.Calls.{ComesBefore, IsCallKind}
use Rattle.plan_tables.specs.Limits.{latest_departure, most_calls, most_sections}
use Rattle.plan_tables.specs.Sections.{Follows, IsSection, SectionLiesOn}

-- a plan: the second of its departure, the speeds in km/h at which the train enters and leaves the line, its calls and
-- its sections in order
pub record PlanView : Type 0 where
  pub depart : ℕ
  pub enter : ℕ
  pub leave : ℕ
  pub calls : List Call
  pub sections : List Section

-- the plan that says nothing: the train departs at 0, stands at both ends, and calls nowhere
abbrev pub empty_plan : PlanView
empty_plan = record { depart = 0; enter = 0; leave = 0; calls = []; sections = [] }

-- the calls of a plan are no more than it may have, each in range, and each past the one before it
pub record AreCalls (calls : List Call) : Type 0 where
  pub few : length calls ≤ most_calls
  pub dwell : All (λ c. IsCallKind c.kind) calls
  pub rise : AllPairs ComesBefore calls

-- the sections of a plan are no more than it may have, each in range, and they follow one another
pub record AreSections (sections : List Section) : Type 0 where
  pub few : length sections ≤ most_sections
  pub hold : All IsSection sections
  pub follow : AllPairs Follows sections

-- the numbers of a plan are in their ranges, and its calls and sections in theirs and in order
pub record IsPlan (p : PlanView) : Type 0 where
  pub departs : p.depart ≤ latest_departure
  pub enters : p.enter ≤ greatest_speed
  pub leaves : p.leave ≤ greatest_speed
  pub calls : AreCalls p.calls
  pub sections : AreSections p.sections

-- the calls and the sections of a plan are on a line of that length, in metres
pub record PlanLiesOn (length : ℕ) (p : PlanView) : Type 0 where
  pub calls : All (λ c. c.at ≤ length) p.calls
  pub sections : All (SectionLiesOn length) p.sections
