-- What a train is on a line: the pulls, the step rule and the caps.
use Rattle.std.specs.Prelude.{ℕ, List, ◌++◌, ℤ}
use Rattle.limit_profile.specs.Profile.{Profile, profile_of}
use Rattle.line_tables.specs.Line.{LineView}
use Rattle.plan_tables.specs.Bounds.{bounds_of}
use Rattle.plan_tables.specs.Plan.{PlanView}
use Rattle.run_rules.specs.Caps.{caps_of}
use Rattle.run_rules.specs.Runs.{StepRule}
use Rattle.run_rules.specs.StepRules.{rule_of}
use Rattle.step_rule.specs.Motion.{Motion}
use Rattle.stock_tables.specs.Stock.{StockView}
use Rattle.train_mean.specs.Gradients.{pulls_of}
use Rattle.unit_rules.specs.declared.Bound.{Bound}
use Rattle.unit_rules.specs.declared.Zone.{Zone}

-- the pull at each cell of a line on a train whose head is there
abbrev pub train_pulls : LineView → StockView → List ℤ
train_pulls line stock = pulls_of line.slopes line.length stock.mass stock.length

-- how a train moves on a line
abbrev pub train_motion : LineView → StockView → Motion
train_motion line stock = record {
  push = stock.push;
  brake = stock.brake;
  moved = stock.moved_mass;
  pulls = train_pulls line stock;
}

-- the step rule of a train on a line
abbrev pub train_rule : LineView → StockView → StepRule
train_rule line stock = rule_of stock.push.rows stock.brake.rows stock.moved_mass (train_pulls line stock)

-- the limits of a train on a line, under restrictions beside the line's limits, and bounds at some points
abbrev pub case_profile : LineView → StockView → List Zone → List Bound → Profile
case_profile line stock restrictions bounds =
    profile_of line.length stock.length stock.top (line.limits ++ restrictions) bounds

-- the caps of a train on a line, under restrictions beside the line's limits, and bounds at some points
abbrev pub case_caps : LineView → StockView → List Zone → List Bound → List ℕ
case_caps line stock restrictions bounds =
    caps_of line.length stock.length stock.top (line.limits ++ restrictions) bounds

-- the caps of a train on a line by a plan, under restrictions beside the line's limits
abbrev pub plan_caps : LineView → StockView → PlanView → List Zone → List ℕ
plan_caps line stock plan restrictions = case_caps line stock restrictions (bounds_of plan line.length)
