use Rattle.std.proofs.Common.{ℕ, ◌+◌, ◌*◌, ◌<◌, ◌≤◌}
use Rattle.limit_profile.specs.Levels.{IsLevel}
use Rattle.limit_profile.specs.Profile.{caps}
use Rattle.step_rule.specs.Motion.{step_rule_of}
use Rattle.cert_check.specs.Faults.{KeepsAll}
use Rattle.cert_check.specs.Rules.{BreaksPointRule}
use Rattle.cert_check.proofs.first_fault.Given as goal

-- no rule is broken at the points before
abbrev pub invariant-loop-point : goal.invariant-loop-point
invariant-loop-point g l = record {
  level : IsLevel l.limits l.hints.level;
  kept : (j : ℕ) → j < l.point → KeepsAll (BreaksPointRule (step_rule_of l.rule) (caps l.limits) l.c l.e j);
  cost : l.steps ≤ l.fn.steps + 3 * l.point;
}
