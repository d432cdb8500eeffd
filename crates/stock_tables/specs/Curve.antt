-- Curves: the values by speed that the rows of a table give.
use Rattle.std.specs.Prelude.{ℕ, ◌≡◌, ◌+◌, ◌-◌, ◌≤◌, ◌<◌, Bool, true, ◌==◌, ◌&&◌, nat_lt, nat_le, List, [], ◌∷◌, drop, length, map, slice_index, All, ℤ, pos}
use Rattle.std.specs.List.{find, range_with_len, zip}
use Rattle.std.specs.Option.{option_map_or}
use Rattle.unit_rules.specs.Limits.{greatest_speed}
use Rattle.run_rules.specs.Grids.{value_between}
use Rattle.stock_tables.specs.declared.curve.Row.{Row}

-- the speeds of rows, in km/h
abbrev pub speeds : List Row → List ℕ
speeds rows = map (λ r. r.kmh) rows

-- whether each speed is above the one before it
abbrev pub is_rising : List ℕ → Bool
is_rising [] = true
is_rising (x ∷ []) = true
is_rising (x ∷ y ∷ xs) = nat_lt x y && is_rising (y ∷ xs)

-- the speed of the last row
abbrev pub last_speed : List Row → ℕ
last_speed rows = slice_index (speeds rows) (length rows - 1)

-- whether there are two rows or more, from a speed of 0 to the top speed, at rising speeds
abbrev pub are_in_order : ℕ → List Row → Bool
are_in_order top rows =
    nat_le 2 (length rows) && (slice_index (speeds rows) 0 == 0) && (last_speed rows == top) && is_rising (speeds rows)

-- the value at a speed on the way from one row to the next, rounded down
abbrev pub value_on : Row × Row → ℕ → ℤ
value_on pair kmh = value_between (pos pair.0.value) (pos pair.1.value) (kmh - pair.0.kmh) (pair.1.kmh - pair.0.kmh)

-- each row with the next one
abbrev pub neighbours : List Row → List (Row × Row)
neighbours rows = zip rows (drop 1 rows)

-- whether a speed lies between two rows, or at one of them
abbrev pub lies_between : ℕ → Row × Row → Bool
lies_between kmh pair = nat_le pair.0.kmh kmh && nat_le kmh pair.1.kmh

-- the value at a speed: on the way between the first two neighbours between which the speed lies
abbrev pub curve_value : List Row → ℕ → ℤ
curve_value rows kmh = option_map_or (λ pair. value_on pair kmh) (find (lies_between kmh) (neighbours rows)) (pos 0)

-- the values at 0, 1, .. up to the top speed
abbrev pub values_to : ℕ → List Row → List ℤ
values_to top rows = map (curve_value rows) (range_with_len 0 (top + 1))

-- a row within the ranges of every table
pub record IsRow (r : Row) : Type 0 where
  pub slow : r.kmh ≤ greatest_speed
  pub small : r.value ≤ 3000000

-- rows of a curve: two or more, at rising speeds from 0 on
pub record IsCurve (rows : List Row) : Type 0 where
  pub some : 2 ≤ length rows
  pub starts : slice_index (speeds rows) 0 ≡ 0
  pub rises : (i : ℕ) → i + 1 < length rows → slice_index (speeds rows) i < slice_index (speeds rows) (i + 1)
  pub ranges : All IsRow rows

-- a curve up to a top speed
pub record IsCurveTo (top : ℕ) (rows : List Row) : Type 0 where
  pub curve : IsCurve rows
  pub ends : last_speed rows ≡ top
