use Rattle.std.proofs.Common.{◌≡◌, ℕ, ◌≤◌, drop}
use Rattle.run_rules.specs.Caps.{bounds_at}
use Rattle.limit_profile.proofs.bounds_stretch.Given as goal

abbrev pub invariant-loop-bound : goal.invariant-loop-bound
invariant-loop-bound l = record {
  from : l.from ≤ l.point;
  to : l.point ≤ l.to;
  same : (i : ℕ) → l.from ≤ i → i ≤ l.to → bounds_at (drop l.bound-index l.bounds) i ≡ bounds_at (drop l.bound-index l.bounds) l.point
      → bounds_at l.bounds i ≡ bounds_at l.bounds l.point;
}
