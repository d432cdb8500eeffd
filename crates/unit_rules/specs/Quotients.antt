-- Exact quotients, rounded to a whole number.
use Rattle.std.specs.Prelude.{ℕ, ℤ, pos, neg_ℤ, ◌*ℤ◌, ◌≤ℤ◌}
use Rattle.std.specs.Int.{int_div_euclid}

-- the quotient rounded down, for a divisor above 0
abbrev pub floor_div : ℤ → ℕ → ℤ
floor_div a d = int_div_euclid a (pos d)

-- the quotient rounded up, for a divisor above 0
abbrev pub ceil_div : ℤ → ℕ → ℤ
ceil_div a d = neg_ℤ (floor_div (neg_ℤ a) d)

-- the greatest whole number whose product with b is at most a
pub record IsFloorOf (a b q : ℤ) : Type 0 where
  pub at_most : (q *ℤ b) ≤ℤ a
  pub greatest : (z : ℤ) → (z *ℤ b) ≤ℤ a → z ≤ℤ q

-- the least whole number whose product with b is at least a
pub record IsCeilingOf (a b q : ℤ) : Type 0 where
  pub at_least : a ≤ℤ (q *ℤ b)
  pub least : (z : ℤ) → a ≤ℤ (z *ℤ b) → q ≤ℤ z
