use Rattle.std.proofs.Common.{◌≡◌, ◌≢◌, ℕ, ◌+◌, ◌-◌, ◌<◌, ◌≤◌, length, slice_index, Some}
use Rattle.unit_rules.specs.Known.{known_at}
use Rattle.run_rules.proofs.DrivingFacts.{IsDriven}
use Rattle.step_rule.specs.Motion.{step_rule_of}
use Rattle.effort_run.proofs.drive.Given as goal

-- the numbers up to point i are driven, and those past it are as before
abbrev pub invariant-loop-i : goal.invariant-loop-i
invariant-loop-i g l = record {
  driven : IsDriven (step_rule_of l.rule) l.c l.e (l.i + 1);
  rest : (j : ℕ) → l.i < j → slice_index l.e j ≡ slice_index l.fn.e j;
  before : (j : ℕ) → j < l.from → slice_index l.e j ≡ slice_index l.fn.e j;
  differs : (j : ℕ) → l.to < j → j ≤ l.i → Some (slice_index l.e j) ≢ known_at l.fn.e l.known j;
  cost : l.steps + (l.from - 1) ≤ l.fn.steps + l.i;
  same_points : length l.e ≡ length l.c;
  above : l.from - 1 ≤ l.i;
}
