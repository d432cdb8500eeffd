-- The slopes that are still ahead of a train's head or tail.
use Rattle.std.specs.Prelude.{ℕ, ◌-◌, ◌<◌, ◌≤◌, ◌≡◌, nat_le, if◌then◌else◌, List, [], ◌∷◌, All, ℤ, pos, neg_ℤ, ◌≤ℤ◌, ⊤}
use Rattle.line_tables.specs.Slope.{Follows}
use Rattle.line_tables.specs.declared.line.Slope.{Slope}
use Rattle.train_mean.specs.Gradients.{gradient_at}

-- a slope is not empty, and its gradient is in range
pub record IsSlope (s : Slope) : Type 0 where
  pub rises : s.from < s.to
  pub least : neg_ℤ (pos 1000) ≤ℤ s.tenths
  pub most : s.tenths ≤ℤ pos 1000

-- slopes in their order along the line, none of which begins before the end of another
abbrev pub AreSlopes : List Slope → Type 0
AreSlopes [] = ⊤
AreSlopes (s ∷ rest) = IsSlope s × All (Follows s) rest × AreSlopes rest

-- the first of them ends after a cell
abbrev pub IsAhead : ℕ → List Slope → Type 0
IsAhead cell [] = ⊤
IsAhead cell (s ∷ rest) = cell < s.to

-- what is left of the slopes tells the gradients from a cell on
abbrev pub TellsFrom : ℕ → List Slope → List Slope → Type 0
TellsFrom cell slopes left = (c : ℕ) → cell ≤ c → gradient_at left c ≡ gradient_at slopes c

-- the gradient of the cell that the tail leaves as the head enters a cell
abbrev pub gradient_left : List Slope → ℕ → ℕ → ℤ
gradient_left slopes train cell = if nat_le train cell then gradient_at slopes (cell - train) else pos 0

-- each cell from one up to another has one gradient, which is in range
pub record Passes (gradient : ℕ → ℤ) (cell to : ℕ) (tenths : ℤ) : Type 0 where
  pub steady : (c : ℕ) → cell ≤ c → c < to → tenths ≡ gradient c
  pub least : neg_ℤ (pos 1000) ≤ℤ tenths
  pub most : tenths ≤ℤ pos 1000
