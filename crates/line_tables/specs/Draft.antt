-- What contracts see of a line while the records of its file are read.
use Rattle.std.specs.Prelude.{ℕ, ◌≡◌, List, [], Option}
use Rattle.std.specs.Option.{ForNone, ForSome}
use Rattle.unit_rules.specs.declared.Zone.{Zone}
use Rattle.line_tables.specs.declared.line.Slope.{Slope}
use Rattle.line_tables.specs.Line.{IsLine, LineView}

-- what the records before a record say: the name and the length of the line, and its slopes, limits and points
pub record DraftView : Type 0 where
  pub line : Option (List ℕ × ℕ)
  pub slopes : List Slope
  pub limits : List Zone
  pub points : List (List ℕ × ℕ)

-- the line of that name and length, with the slopes, limits and points of a draft
abbrev pub line_with : DraftView → List ℕ × ℕ → LineView
line_with d l = record { name = l.0; length = l.1; slopes = d.slopes; limits = d.limits; points = d.points }

-- where there is a line it keeps its ranges and orders; where there is none there is nothing else
pub record IsDraft (d : DraftView) : Type 0 where
  pub line : ForSome d.line (λ l. IsLine (line_with d l))
  pub no_slopes : ForNone d.line (d.slopes ≡ [])
  pub no_limits : ForNone d.line (d.limits ≡ [])
  pub no_points : ForNone d.line (d.points ≡ [])
