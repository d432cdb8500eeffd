-- The time that a metre takes between two squared speeds, in nanoseconds. A squared speed is in (0.01 km/h)².
use Rattle.std.specs.Prelude.{◌≡◌, ◌^◌, ℕ, ◌+◌, ◌-◌, ◌*◌, ◌/◌, ◌≤◌, ◌⊎◌}
use Rattle.std.specs.Int.{div_ceil}
use Rattle.unit_rules.specs.Roots.{root_ceil, root_floor}

-- the speed of a squared speed in 0.00001 km/h, rounded down and rounded up
unfoldable pub speed_rounded_down : ℕ → ℕ
speed_rounded_down u = root_floor (1000000 * u)

unfoldable pub speed_rounded_up : ℕ → ℕ
speed_rounded_up u = root_ceil (1000000 * u)

-- two metres, as a time in nanoseconds times a speed in 0.00001 km/h
abbrev pub two_metres : ℕ
two_metres = 720000000000000

-- at a constant acceleration a metre takes as long as two metres at the sum of the speeds at its ends; the shortest time is
-- that of the speeds rounded up, rounded down, and the longest that of the speeds rounded down, rounded up
unfoldable pub shortest_time : ℕ → ℕ → ℕ
shortest_time a b = two_metres / (speed_rounded_up a + speed_rounded_up b)

unfoldable pub longest_time : ℕ → ℕ → ℕ
longest_time a b = div_ceil two_metres (speed_rounded_down a + speed_rounded_down b)

-- the longest time from a stand to squared speed 1: no train that moves takes longer over a metre
abbrev pub slowest_metre : ℕ
slowest_metre = 720000000000

-- the square of two metres, as a time in nanoseconds times a speed in 0.01 km/h
abbrev pub two_metres_squared : ℕ
two_metres_squared = 720000000000 * 720000000000

-- n nanoseconds are not longer than the true time, which is two metres over √a + √b: the comparison of n² (√a + √b)² with
-- two metres squared, freed of its last root by squaring once more
pub record IsNotLonger (n a b : ℕ) : Type 0 where
  pub squares : n * n * (a + b) ≤ two_metres_squared
  pub products : 4 * (n * n * (n * n)) * (a * b) ≤ (two_metres_squared - n * n * (a + b)) * (two_metres_squared - n * n * (a + b))

-- n nanoseconds are not shorter than the true time
abbrev pub IsNotShorter : ℕ → ℕ → ℕ → Type 0
IsNotShorter n a b =
    (two_metres_squared ≤ n * n * (a + b))
    ⊎ ((two_metres_squared - n * n * (a + b)) * (two_metres_squared - n * n * (a + b)) ≤ 4 * (n * n * (n * n)) * (a * b))

-- both roundings of the speed of a squared speed, and that they are small
pub record AreSpeeds (u down up : ℕ) : Type 0 where
  pub rounded_down : down ≡ speed_rounded_down u
  pub rounded_up : up ≡ speed_rounded_up u
  pub down_fits : down ≤ 2 ^ 32
  pub up_fits : up ≤ 2 ^ 32

-- both ends of the time between two squared speeds, unless both are 0
pub record AreTimes (a b lo hi : ℕ) : Type 0 where
  pub shortest : 1 ≤ a + b → lo ≡ shortest_time a b
  pub longest : 1 ≤ a + b → hi ≡ longest_time a b
