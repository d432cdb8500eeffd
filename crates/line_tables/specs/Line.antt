-- What contracts see of a line.
use Rattle.std.specs.Prelude.{ℕ, ◌≤◌, List, All, AllPairs}
use Rattle.unit_rules.specs.Limits.{longest_line}
use Rattle.unit_rules.specs.Zone.{LiesOn}
use Rattle.unit_rules.specs.declared.Zone.{Zone}
use Rattle.line_tables.specs.declared.line.Slope.{Slope}
use Rattle.line_tables.specs.Points.{HaveTwoNames, StandsOn}
use Rattle.line_tables.specs.Slope.{Follows, SlopeLiesOn}

-- a line: its name, its length in metres, and its slopes, limits and points in the order of the file
pub record LineView : Type 0 where
  pub name : List ℕ
  pub length : ℕ
  pub slopes : List Slope
  pub limits : List Zone
  pub points : List (List ℕ × ℕ)

-- the length of a line is in range, its slopes, limits and points lie on it, its slopes follow one another, and no two
-- of its points have one name
pub record IsLine (t : LineView) : Type 0 where
  pub short : 2 ≤ t.length
  pub long : t.length ≤ longest_line
  pub slopes_lie : All (SlopeLiesOn t.length) t.slopes
  pub slopes_follow : AllPairs Follows t.slopes
  pub limits_lie : All (LiesOn t.length) t.limits
  pub points_lie : All (StandsOn t.length) t.points
  pub names_differ : AllPairs HaveTwoNames t.points
