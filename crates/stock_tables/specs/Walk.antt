-- A walk along a curve at rising speeds.
use Rattle.std.specs.Prelude.{ℕ, ◌≡◌, ◌+◌, ◌≤◌, ◌<◌, List, drop, length, slice_index}
use Rattle.stock_tables.specs.declared.curve.Row.{Row}
use Rattle.stock_tables.specs.Curve.{speeds, curve_value}

-- a place that the walk has reached at a speed: the rows from there on give the values of the whole curve at that speed and above it
pub record IsPassed (rows : List Row) (place kmh : ℕ) : Type 0 where
  pub on_curve : place + 1 < length rows
  pub passed : slice_index (speeds rows) place ≤ kmh
  pub same : (k : ℕ) → kmh ≤ k → curve_value (drop place rows) k ≡ curve_value rows k
