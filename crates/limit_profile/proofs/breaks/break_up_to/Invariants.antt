use Rattle.std.proofs.Common.{◌-◌, ◌<◌, ◌≤◌, length, slice_index_or}
use Rattle.limit_profile.specs.declared.breaks.Break.{Break}
use Rattle.limit_profile.proofs.breaks.break_up_to.Given as goal

-- the break that is sought stands from `last` on and before `past`
abbrev pub invariant-loop-last : goal.invariant-loop-last
invariant-loop-last l = record {
  ordered : l.last < l.past;
  bound : l.past ≤ length l.breaks;
  last : (d : Break) → (slice_index_or l.breaks l.last d).at ≤ l.point;
  next : (d : Break) → l.past < length l.breaks → l.point < (slice_index_or l.breaks l.past d).at;
}

abbrev pub decreases-loop-last : goal.decreases-loop-last
decreases-loop-last l = l.past - l.last
