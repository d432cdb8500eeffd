-- The caps of zones on a course, a train on a line, as a function of points.
use Rattle.std.specs.Prelude.{ℕ, ◌≤◌, List}
use Rattle.unit_rules.specs.Limits.{greatest_speed, longest_line, longest_train}
use Rattle.unit_rules.specs.declared.Zone.{Zone}
use Rattle.limit_profile.specs.Breaks.{zoned_at}
use Rattle.limit_profile.specs.declared.pieces.Course.{Course}

-- the numbers are in range
pub record IsCourse (c : Course) : Type 0 where
  pub short : c.length ≤ longest_line
  pub train : c.train ≤ longest_train
  pub top : c.top ≤ greatest_speed

-- the least of the top speed and of the zones that bind at a point
abbrev pub zoned : Course → List Zone → ℕ → ℕ
zoned c zones = zoned_at c.length c.train c.top zones
