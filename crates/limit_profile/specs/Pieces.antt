-- A function of points as pieces in which it has one number each.
use Rattle.std.specs.Prelude.{◌≡◌, ℕ, ◌<◌, ◌≤◌, List, [], ◌∷◌}
use Rattle.limit_profile.specs.declared.pieces.Piece.{Piece}

-- the function has the piece's number from a point on up to the piece's end
pub record IsPiece (f : ℕ → ℕ) (from : ℕ) (piece : Piece) : Type 0 where
  pub ordered : from ≤ piece.until
  pub same : (i : ℕ) → from ≤ i → i < piece.until → f i ≡ piece.most

-- pieces that follow each other from a point to another
abbrev pub ArePieces : (ℕ → ℕ) → ℕ → List Piece → ℕ → Type 0
ArePieces f from [] to = from ≡ to
ArePieces f from (piece ∷ pieces) to = IsPiece f from piece × ArePieces f piece.until pieces to
