-- The keys of a stock file, and the rules of a key, by number.
use Rattle.std.specs.Prelude.{ℕ}

-- the key `mass`
abbrev pub mass_key : ℕ
mass_key = 1

-- the key `rotating`
abbrev pub rotating_key : ℕ
rotating_key = 2

-- the key `length`
abbrev pub length_key : ℕ
length_key = 3

-- the key `top`
abbrev pub top_key : ℕ
top_key = 4

-- the key `effort`, and its table
abbrev pub effort_key : ℕ
effort_key = 5

-- the key `resistance`
abbrev pub resistance_key : ℕ
resistance_key = 6

-- the key `brake`, and its table
abbrev pub brake_key : ℕ
brake_key = 7

-- the key is missing
abbrev pub missing : ℕ
missing = 1

-- what the key holds is of another type or shape
abbrev pub wrong_shape : ℕ
wrong_shape = 2

-- a number is outside its range
abbrev pub out_of_range : ℕ
out_of_range = 3

-- there are fewer than two rows, or their speeds don't rise from 0 to the top speed
abbrev pub out_of_order : ℕ
out_of_order = 4

-- the effort breaks its law
abbrev pub effort_law : ℕ
effort_law = 5

-- the brakes break their law
abbrev pub brake_law : ℕ
brake_law = 6
