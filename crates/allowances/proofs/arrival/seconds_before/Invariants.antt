use Rattle.std.proofs.Common.{◌≡◌, ◌+◌, drop, filter, sum_by}
use Rattle.plan_tables.specs.Plan.{IsPlan}
use Rattle.allowances.specs.Arrivals.{dwell_at, is_before, seconds_before}
use Rattle.allowances.proofs.arrival.seconds_before.Given as goal

-- the seconds so far, and those of the calls that are left
abbrev pub invariant-loop-call : goal.invariant-loop-call
invariant-loop-call l = record {
  plan : IsPlan l.plan;
  seconds : l.seconds + sum_by dwell_at (filter (is_before l.point) (drop l.call-index l.plan.calls)) ≡ seconds_before l.plan l.point;
}
