use Rattle.std.proofs.Common.{◌≡◌, ℕ, ◌+◌, ◌-◌, ◌<◌, ◌≤◌, ◌++◌, length, slice_index_or, vec_capacity}
use Rattle.limit_profile.specs.Breaks.{breaks_below}
use Rattle.limit_profile.specs.Changes.{ComesFrom}
use Rattle.limit_profile.specs.declared.breaks.Break.{Break}
use Rattle.limit_profile.proofs.changes.list_stretch.Given as goal

-- the breaks from the zone's start up to the point are listed, the cap before it is at hand, and a break before it
abbrev pub invariant-loop-point : goal.invariant-loop-point
invariant-loop-point l = record {
  bound : l.index < length l.breaks;
  before : (d : Break) → (slice_index_or l.breaks l.index d).at ≤ l.point;
  ends : l.point ≤ l.until;
  listed : (f g : ℕ → ℕ) → ComesFrom l.course l.change l.zone l.zones f g → l.breaks ≡ breaks_below f (l.course.length + 1)
      → (0 < l.point → g (l.point - 1) ≡ l.most) × (breaks_below g l.zone.from ++ l.list.items ≡ breaks_below g l.point);
  room : vec_capacity l.list ≡ vec_capacity l.initial.list;
}

abbrev pub decreases-loop-point : goal.decreases-loop-point
decreases-loop-point l = l.until - l.point
