use Rattle.std.proofs.Common.{◌-◌, ◌<◌, ◌≤◌, length, slice_index_or}
use Rattle.limit_profile.specs.declared.breaks.Break.{Break}
use Rattle.limit_profile.proofs.breaks.break_from.Given as goal

-- no break up to `last` stands past the point
abbrev pub invariant-loop-last : goal.invariant-loop-last
invariant-loop-last l = record {
  bound : l.last < length l.breaks;
  last : (d : Break) → (slice_index_or l.breaks l.last d).at ≤ l.point;
}

abbrev pub decreases-loop-last : goal.decreases-loop-last
decreases-loop-last l = length l.breaks - l.last
