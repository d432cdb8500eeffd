-- How the allowances of a plan are laid on its rows, from point 0 on.
use Rattle.std.specs.Prelude.{◌≡◌, ℕ, ◌-◌, ◌*◌, ◌/◌, ◌<◌, ◌≤◌, nat_le, if◌then◌else◌, List, length, map, All, sum_by, take, slice_index_or}
use Rattle.plan_tables.specs.declared.plan.Section.{Section}
use Rattle.plan_tables.specs.Plan.{IsPlan, PlanView}
use Rattle.time_brackets.specs.Sums.{longest_at, sum_over}
use Rattle.allowances.specs.declared.allowance.Allowance.{Allowance}
use Rattle.allowances.specs.declared.progress.Progress.{Progress}
use Rattle.allowances.specs.declared.run.Run.{Run}
use Rattle.allowances.specs.Allowances.{amount_of, section_time}
use Rattle.allowances.specs.Arrivals.{seconds_before}
use Rattle.allowances.specs.WholeRuns.{IsWholeRun}

-- an allowance has the times of its section for a list of squared speeds, and its amount
pub record IsAllowanceOf (e : List ℕ) (a : Allowance) : Type 0 where
  pub before : a.before ≡ sum_over (longest_at e) 0 a.section.from
  pub over : a.over ≡ section_time e a.section
  pub amount : a.amount ≡ amount_of e a.section

-- the section of an allowance, and its amount
abbrev pub section_of : Allowance → Section
section_of a = a.section

abbrev pub amount_in : Allowance → ℕ
amount_in a = a.amount

-- the allowances of sections, in order
pub record AreAllowancesOf (e : List ℕ) (planned : List Section) (allowances : List Allowance) : Type 0 where
  pub sections : map section_of allowances ≡ planned
  pub each : All (IsAllowanceOf e) allowances

-- a run goes to the end of its line by a plan that lies there, and has the plan's allowances
pub record IsLaid (run : Run) : Type 0 where
  pub plan : IsPlan run.plan.now
  pub whole : IsWholeRun run.plan.now run.sums.now run.e.now run.length
  pub allowances : AreAllowancesOf run.e.now run.plan.now.sections run.allowances.now

-- the first allowances end at or before a point, and add so much there
pub record HaveEnded (allowances : List Allowance) (point count sum : ℕ) : Type 0 where
  pub some : count ≤ length allowances
  pub past : All (λ a. a.section.to ≤ point) (take count allowances)
  pub added : sum ≡ sum_by amount_in (take count allowances)

-- the allowance behind so many, if there is one, ends past a point
abbrev pub EndsPast : List Allowance → ℕ → ℕ → Type 0
EndsPast allowances point count = (d : Allowance) → count < length allowances → point < (slice_index_or allowances count d).section.to

-- the progress of a timetable at a point
pub record IsProgressAt (plan : PlanView) (allowances : List Allowance) (point : ℕ) (p : Progress) : Type 0 where
  pub seconds : p.seconds ≡ seconds_before plan point
  pub ended : HaveEnded allowances point p.ended p.added
  pub ahead : EndsPast allowances point p.ended

-- what an allowance adds at a point before its end, where the longest time to there is so long
abbrev pub share_at : Allowance → ℕ → ℕ → ℕ
share_at a point time = if nat_le point a.section.from then 0 else a.amount * (time - a.before) / a.over
