use Rattle.std.proofs.Common.{◌≡◌, ◌≢◌, ℕ, ◌+◌, ◌*◌, ◌<◌, ◌≤◌, length, slice_index}
use Rattle.run_rules.specs.Walks.{AgreeOutside}
use Rattle.run_rules.proofs.BrakingFacts.{IsGreatestFrom}
use Rattle.limit_profile.specs.Levels.{IsLevel}
use Rattle.limit_profile.specs.Profile.{caps}
use Rattle.step_rule.specs.Motion.{step_rule_of}
use Rattle.brake_caps.proofs.walk_back.Given as goal

-- from the point on the numbers are the greatest, and all but those at from..=to are as before
abbrev pub invariant-loop-point : goal.invariant-loop-point
invariant-loop-point g l = record {
  least : l.from ≤ l.point;
  level : IsLevel l.limits l.hints.level;
  right : IsGreatestFrom (step_rule_of l.rule) (caps l.limits) l.c l.point;
  agree : AgreeOutside l.fn.c l.c l.point l.to;
  points : length l.c ≡ l.limits.length + 1;
  cost : l.steps + 33 * l.point ≤ l.fn.steps + 33 * (l.to + 1);
  start : l.point ≡ l.to + 1 → l.steps ≡ l.fn.steps;
  end_cost : l.to ≡ l.limits.length → l.point ≤ l.to → l.steps + 33 * l.point ≤ l.fn.steps + 33 * l.to;
}

-- below `from` those from `lowest` on changed
abbrev pub invariant-loop-lowest : goal.invariant-loop-lowest
invariant-loop-lowest g l = record {
  level : IsLevel l.limits l.hints.level;
  right : IsGreatestFrom (step_rule_of l.rule) (caps l.limits) l.c l.lowest;
  agree : AgreeOutside l.fn.c l.c l.lowest l.to;
  changed : (i : ℕ) → l.lowest ≤ i → i < l.from → slice_index l.c i ≢ slice_index l.fn.c i;
  most : l.lowest ≤ l.from;
  points : length l.c ≡ l.limits.length + 1;
  cost : l.steps + 33 * l.lowest ≤ l.fn.steps + 33 * (l.to + 1);
  end_cost : l.to ≡ l.limits.length → l.steps + 33 * l.lowest ≤ l.fn.steps + 33 * l.to;
}

abbrev pub decreases-loop-lowest : goal.decreases-loop-lowest
decreases-loop-lowest g l = l.lowest
