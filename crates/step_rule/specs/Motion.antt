-- What contracts see of the step rule of a train on a line.
use Rattle.std.specs.Prelude.{◌≡◌, ℕ, ◌≤◌, ℤ, pos, ◌≤ℤ◌, List, All, length}
use Rattle.unit_rules.specs.Limits.{longest_line}
use Rattle.run_rules.specs.Grids.{row, top_of}
use Rattle.run_rules.specs.Runs.{StepRule}
use Rattle.run_rules.specs.Speeds.{squared}
use Rattle.run_rules.specs.StepRules.{IsPull, rule_of}
use Rattle.table_laws.specs.Laws.{BandTable, IsLawful}
use Rattle.table_laws.specs.declared.Law.TheVariants.{Climb, Drop}

-- how a train moves: its push and its brakes by speed, its moved mass in kg, and the pull of the gradient at each cell
pub record Motion : Type 0 where
  pub push : BandTable
  pub brake : BandTable
  pub moved : ℕ
  pub pulls : List ℤ

-- the tables have one top speed and keep the laws under which no step falls as the speed rises, and brakes always slow
pub record IsMotion (motion : Motion) : Type 0 where
  pub push_lawful : IsLawful motion.push
  pub brake_lawful : IsLawful motion.brake
  pub push_law : motion.push.law ≡ Drop motion.moved
  pub brake_law : motion.brake.law ≡ Climb
  pub tops : top_of motion.brake.rows ≡ top_of motion.push.rows
  pub brakes : (k : ℕ) → k ≤ top_of motion.brake.rows → pos 12960 ≤ℤ row motion.brake.rows k
  pub moved_least : 1 ≤ motion.moved
  pub cells_least : 2 ≤ length motion.pulls
  pub cells_most : length motion.pulls ≤ longest_line
  pub pulls_small : All IsPull motion.pulls

-- how many cells the line has
abbrev pub cells_of : Motion → ℕ
cells_of motion = length motion.pulls

-- the top speed in km/h
abbrev pub kmh_of : Motion → ℕ
kmh_of motion = top_of motion.push.rows

-- the greatest squared speed
abbrev pub most_of : Motion → ℕ
most_of motion = squared (kmh_of motion)

-- the step rule
abbrev pub step_rule_of : Motion → StepRule
step_rule_of motion = rule_of motion.push.rows motion.brake.rows motion.moved motion.pulls
