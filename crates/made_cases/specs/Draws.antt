-- The source of the numbers that a case is made of: a linear congruential generator.
use Rattle.std.specs.Prelude.{ℕ, zero, suc, ◌+◌, ◌*◌, ◌^◌, ◌/◌, ◌%◌}

-- the state after another
abbrev pub next_state : ℕ → ℕ
next_state x = (x * 6364136223846793005 + 1442695040888963407) % 2 ^ 64

-- the number below another that is drawn as the source comes to a state
abbrev pub drawn : ℕ → ℕ → ℕ
drawn x below = x / 2 ^ 33 % below

-- the state after so many draws, from n on
unfoldable pub state_after : ℕ → ℕ → ℕ
state_after n zero = n
state_after n (suc draws) = next_state (state_after n draws)

-- the draw that comes after so many others, below a number
abbrev pub draw : ℕ → ℕ → ℕ → ℕ
draw n before below = drawn (state_after n (before + 1)) below
