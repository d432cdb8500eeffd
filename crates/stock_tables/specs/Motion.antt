-- What the keys of a stock file mean for the squared speed of the train. Uniform acceleration over a metre changes the square by twice as much;
-- with speeds in 0.01 km/h, of which 1 m/s has 360, that is 2·360² = 259200 for each m/s².
use Rattle.std.specs.Prelude.{ℕ, ◌+◌, ◌*◌, ◌≤◌, List, map, ℤ, pos, ◌-ℤ◌, ◌*ℤ◌}
use Rattle.std.specs.Int.{div_ceil}
use Rattle.std.specs.List.{range_with_len}
use Rattle.unit_rules.specs.Quotients.{floor_div}
use Rattle.stock_tables.specs.declared.curve.Row.{Row}
use Rattle.stock_tables.specs.declared.motion.Resistance.{Resistance}
use Rattle.stock_tables.specs.Curve.{curve_value}

-- the mass that has to be moved, in kg: rotating parts, in per mille, count as more mass; rounded up
abbrev pub moved_mass : ℕ → ℕ → ℕ
moved_mass mass rotating = div_ceil (mass * (1000 + rotating)) 1000

-- the running resistance at a speed in km/h, in mN, in the form of Davis: A + Bv + Cv²
abbrev pub resistance_at : Resistance → ℕ → ℕ
resistance_at r kmh = 1000 * r.constant + r.linear * kmh + r.quadratic * (kmh * kmh)

-- the push, which changes the square by as much for each kg that is moved: effort in N less resistance in mN, which is rounded up
abbrev pub net_push : ℤ → ℕ → ℤ
net_push effort resistance = pos 259200 *ℤ effort -ℤ pos (div_ceil (1296 * resistance) 5)

-- what braking at a rate in mm/s² takes from the square, rounded down
abbrev pub brake_loss : ℤ → ℤ
brake_loss rate = floor_div (pos 2592 *ℤ rate) 10

-- the push at 0, 1, .. up to the top speed
abbrev pub push_rows : ℕ → List Row → Resistance → List ℤ
push_rows top effort resistance = map (λ kmh. net_push (curve_value effort kmh) (resistance_at resistance kmh)) (range_with_len 0 (top + 1))

-- what braking takes at 0, 1, .. up to the top speed
abbrev pub brake_rows : ℕ → List Row → List ℤ
brake_rows top rates = map (λ kmh. brake_loss (curve_value rates kmh)) (range_with_len 0 (top + 1))

-- a resistance in its ranges
pub record IsResistance (r : Resistance) : Type 0 where
  pub constant : r.constant ≤ 1000000
  pub linear : r.linear ≤ 10000000
  pub quadratic : r.quadratic ≤ 1000000
