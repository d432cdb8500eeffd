use Rattle.std.proofs.Common.{ℕ, ◌+◌, ◌-◌, ◌*◌, ◌^◌, ◌<◌, ◌≤◌}
use Rattle.step_rule.specs.Motion.{step_rule_of}
use Rattle.step_rule.specs.Spans.{IsSpan}
use Rattle.step_rule.proofs.Rule.halved.Given as goal

abbrev pub invariant-loop-span : goal.invariant-loop-span
invariant-loop-span g l = record {
  span : IsSpan (step_rule_of l.self) l.cell l.w l.span.at l.span.past;
  from : l.fn.span.at ≤ l.span.at;
  within : l.span.past ≤ l.fn.span.past;
  halved : (l.span.past - l.span.at - 1) * 2 ^ (l.steps - l.fn.steps) ≤ l.fn.span.past - l.fn.span.at - 1;
  least : l.fn.steps ≤ l.steps;
  few : (n : ℕ) → l.fn.span.past - l.fn.span.at - 1 < 2 ^ n → l.steps ≤ l.fn.steps + n;
}

abbrev pub decreases-loop-span : goal.decreases-loop-span
decreases-loop-span g l = l.span.past - l.span.at
