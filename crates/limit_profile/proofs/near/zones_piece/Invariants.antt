use Rattle.std.proofs.Common.{◌<◌, ◌≤◌, ◌-◌, length, take}
use Rattle.limit_profile.specs.Course.{zoned}
use Rattle.limit_profile.specs.Pieces.{IsPiece}
use Rattle.limit_profile.proofs.near.zones_piece.Given as goal

-- the piece of the zones so far
abbrev pub invariant-loop-index : goal.invariant-loop-index
invariant-loop-index l = record {
  bound : l.index ≤ length l.zones;
  past : l.point < l.piece.until;
  piece : IsPiece (zoned l.course (take l.index l.zones)) l.point l.piece;
}

abbrev pub decreases-loop-index : goal.decreases-loop-index
decreases-loop-index l = length l.zones - l.index
