use Rattle.std.proofs.Common.{◌≡◌, ◌≤◌, drop, min}
use Rattle.run_rules.specs.Caps.{bounds_at, least}
use Rattle.limit_profile.proofs.bound_cap.Given as goal

abbrev pub invariant-loop-bound : goal.invariant-loop-bound
invariant-loop-bound l = record {
  most : l.least ≤ l.most;
  same : least l.most (bounds_at l.bounds l.point) ≡ min l.least (least l.most (bounds_at (drop l.bound-index l.bounds) l.point));
}
