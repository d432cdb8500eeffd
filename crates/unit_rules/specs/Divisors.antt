-- Numbers that divide many others.
use Rattle.std.specs.Prelude.{ℕ, ◌≡◌, ◌-◌, ◌/◌, ◌^◌, ◌<◌}

-- a number above 0, and how many times 2^64 - 1 has it
pub record IsDivisor (number inverse : ℕ) : Type 0 where
  pub some : 0 < number
  pub times : inverse ≡ (2 ^ 64 - 1) / number
