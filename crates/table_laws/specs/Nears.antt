-- Where a squared speed lies between whole km/h.
use Rattle.std.specs.Prelude.{◌≡◌, ℕ, ◌≤◌}
use Rattle.unit_rules.specs.Limits.{greatest_speed}
use Rattle.run_rules.specs.Grids.{band_width}

-- a whole km/h, and how many squared speeds there are up to the next
pub record IsNear (kmh width : ℕ) : Type 0 where
  pub slow : kmh ≤ greatest_speed
  pub wide : width ≡ band_width kmh
