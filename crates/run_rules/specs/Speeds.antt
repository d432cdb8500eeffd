-- Speeds are kept as squares, since uniform acceleration over a metre changes the square by a fixed amount.
use Rattle.std.specs.Prelude.{ℕ, ◌*◌}

-- the square of a whole number of km/h, in (0.01 km/h)²
unfoldable pub squared : ℕ → ℕ
squared kmh = 10000 * (kmh * kmh)
