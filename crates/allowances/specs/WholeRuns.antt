-- Runs to the end of a line, and plans for them.
use Rattle.std.specs.Prelude.{◌≡◌, ℕ, ◌+◌, ◌≤◌, List, length}
use Rattle.unit_rules.specs.Limits.{longest_line}
use Rattle.plan_tables.specs.Plan.{PlanLiesOn, PlanView}
use Rattle.time_brackets.specs.Sums.{KeptSums, StandsFor}

-- a list has a number for each point of a line of that length, the sums stand for all of them, and the plan lies on the line
pub record IsWholeRun (plan : PlanView) (sums : KeptSums) (e : List ℕ) (metres : ℕ) : Type 0 where
  pub short : metres ≤ longest_line
  pub points : length e ≡ metres + 1
  pub stands : StandsFor sums e (metres + 1)
  pub lies : PlanLiesOn metres plan
