-- Zones of a line.
use Rattle.std.specs.Prelude.{ℕ, ◌<◌, ◌≤◌}
use Rattle.unit_rules.specs.Limits.{greatest_speed}
use Rattle.unit_rules.specs.declared.Zone.{Zone}

-- a zone lies on a line of that length, in metres
pub record LiesOn (length : ℕ) (z : Zone) : Type 0 where
  pub rises : z.from < z.to
  pub ends : z.to ≤ length
  pub slow : 1 ≤ z.kmh
  pub fast : z.kmh ≤ greatest_speed
