use Rattle.std.proofs.Common.{◌≤◌, ◌-◌, pos, ◌≤ℤ◌}
use Rattle.run_rules.specs.Speeds.{squared}
use Rattle.run_rules.specs.StepRules.{fall_from}
use Rattle.step_rule.specs.Motion.{kmh_of}
use Rattle.step_rule.proofs.Rule.kmh_braked_from.Given as goal

abbrev pub invariant-loop-kmh : goal.invariant-loop-kmh
invariant-loop-kmh l = record {
  in_range : l.kmh ≤ kmh_of l.self;
  braked : fall_from l.self.brake.rows (squared l.kmh) ≤ℤ pos l.w;
}

abbrev pub decreases-loop-kmh : goal.decreases-loop-kmh
decreases-loop-kmh l = kmh_of l.self - l.kmh
