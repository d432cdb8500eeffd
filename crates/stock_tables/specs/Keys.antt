-- The values of the keys of a stock file.
use Rattle.std.specs.Prelude.{◌≤◌, All}
use Rattle.unit_rules.specs.Limits.{greatest_speed, longest_train}
use Rattle.stock_tables.specs.declared.keys.Keys.{Keys}
use Rattle.stock_tables.specs.Curve.{IsCurveTo}
use Rattle.stock_tables.specs.Motion.{IsResistance}

-- values in their ranges, and curves up to the top speed
pub record AreKeys (keys : Keys) : Type 0 where
  pub light : 1000 ≤ keys.mass
  pub heavy : keys.mass ≤ 20000000
  pub rotating : keys.rotating ≤ 300
  pub short : 1 ≤ keys.length
  pub long : keys.length ≤ longest_train
  pub slow : 1 ≤ keys.top
  pub fast : keys.top ≤ greatest_speed
  pub effort : IsCurveTo keys.top keys.effort
  pub resistance : IsResistance keys.resistance
  pub brake : IsCurveTo keys.top keys.brake
  pub brake_strong : All (λ r. 50 ≤ r.value) keys.brake
