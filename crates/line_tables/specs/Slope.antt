-- Slopes of a line.
use Rattle.std.specs.Prelude.{ℕ, ◌<◌, ◌≤◌, ◌≤ℤ◌, pos, neg_ℤ}
use Rattle.line_tables.specs.declared.line.Slope.{Slope}

-- a slope lies on a line of that length, in metres
pub record SlopeLiesOn (length : ℕ) (s : Slope) : Type 0 where
  pub rises : s.from < s.to
  pub ends : s.to ≤ length
  pub least : neg_ℤ (pos 1000) ≤ℤ s.tenths
  pub most : s.tenths ≤ℤ pos 1000

-- the second begins where the first ends, or after it
abbrev pub Follows : Slope → Slope → Type 0
Follows a b = a.to ≤ b.from
