use Rattle.std.proofs.Common.{length, drop, ◌-◌, ◌≡◌, ℕ, ◌+◌, ◌≤◌, min}
use Rattle.limit_profile.specs.Pieces.{ArePieces}
use Rattle.limit_profile.proofs.PieceFacts.{Meets}
use Rattle.limit_profile.proofs.pieces.meet.Given as goal

-- what is met so far, and what is left of both
abbrev pub invariant-loop-at_left : goal.invariant-loop-at_left
invariant-loop-at_left l = record {
  left : l.at_left ≤ length l.left;
  right : l.at_right ≤ length l.right;
  meets : (f g h : ℕ → ℕ) (to : ℕ) → ((i : ℕ) → h i ≡ min (f i) (g i)) → ArePieces f 0 l.left to → ArePieces g 0 l.right to
      → Meets f g h (drop l.at_left l.left) (drop l.at_right l.right) l.met.items to;
}

abbrev pub decreases-loop-at_left : goal.decreases-loop-at_left
decreases-loop-at_left l = (length l.left + length l.right) - (l.at_left + l.at_right)
