use Rattle.std.proofs.Common.{◌≡◌, ℕ, ◌-◌, ◌<◌, ◌≤◌, drop, vec_len, vec_capacity}
use Rattle.limit_profile.specs.Breaks.{breaks_below}
use Rattle.limit_profile.specs.Pieces.{ArePieces}
use Rattle.limit_profile.proofs.breaks.list_breaks.Given as goal

-- what is left of the pieces, the number before it, and the breaks so far, at most one for each piece
abbrev pub invariant-loop-piece : goal.invariant-loop-piece
invariant-loop-piece l = record {
  listed : (f : ℕ → ℕ) (to : ℕ) → ArePieces f 0 l.pieces to
      → ArePieces f l.from (drop l.piece-index l.pieces) to × (0 < l.from → f (l.from - 1) ≡ l.most) × (l.breaks.items ≡ breaks_below f l.from);
  one : vec_len l.breaks ≤ l.piece-index;
  room : l.room ≤ vec_capacity l.breaks;
}
