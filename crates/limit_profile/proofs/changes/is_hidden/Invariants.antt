use Rattle.std.proofs.Common.{◌≡◌, ℕ, ◌+◌, ◌-◌, ◌<◌, ◌≤◌, length, slice_index_or}
use Rattle.run_rules.specs.Speeds.{squared}
use Rattle.limit_profile.specs.Breaks.{breaks_below}
use Rattle.limit_profile.specs.declared.breaks.Break.{Break}
use Rattle.limit_profile.proofs.changes.is_hidden.Given as goal

-- from the zone's start up to the point the caps are below its own
abbrev pub invariant-loop-point : goal.invariant-loop-point
invariant-loop-point l = record {
  bound : l.index < length l.breaks;
  before : (d : Break) → (slice_index_or l.breaks l.index d).at ≤ l.point;
  below : (f : ℕ → ℕ) → l.breaks ≡ breaks_below f (l.course.length + 1) → (i : ℕ) → l.zone.from ≤ i → i < l.point → f i < squared l.zone.kmh;
}

abbrev pub decreases-loop-point : goal.decreases-loop-point
decreases-loop-point l = l.end - l.point
