-- The greatest numbers that are taken.
use Rattle.std.specs.Prelude.{ℕ, ◌^◌}

-- the longest line, in metres
abbrev pub longest_line : ℕ
longest_line = 500000

-- the longest train, in metres
abbrev pub longest_train : ℕ
longest_train = 5000

-- the greatest speed, in km/h
abbrev pub greatest_speed : ℕ
greatest_speed = 500

-- the square of that speed, in (0.01 km/h)²
abbrev pub greatest_squared_speed : ℕ
greatest_squared_speed = 2500000000

-- the most bytes of a file
abbrev pub most_bytes : ℕ
most_bytes = 67108864

-- the greatest number of a made-up case
abbrev pub most_seed : ℕ
most_seed = 1000000

-- the greatest value of a table, either way
abbrev pub greatest_value : ℕ
greatest_value = 10 ^ 15

-- the greatest pull of a gradient, either way, in the units of push
abbrev pub greatest_pull : ℕ
greatest_pull = 10 ^ 13
