use Rattle.std.proofs.Common.{◌+◌, ◌-◌, ◌*◌, ◌≤◌, length, take}
use Rattle.allowances.specs.Progress.{AreAllowancesOf}
use Rattle.allowances.proofs.plan.allowances_of.Given as goal

-- the allowances of the sections so far, by the sums at both ends of each
abbrev pub invariant-loop-section : goal.invariant-loop-section
invariant-loop-section g l = record {
  allowances : AreAllowancesOf l.e (take l.section-index l.plan.sections) l.allowances.items;
  cost : l.steps ≤ l.fn.steps + 512 * (2 * l.section-index);
  cost_most : l.steps ≤ l.fn.steps + (length l.e - 1) * (2 * l.section-index);
}
