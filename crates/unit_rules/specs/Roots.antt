-- Square roots, rounded to a whole number.
use Rattle.std.specs.Prelude.{ℕ, zero, suc, ◌+◌, ◌*◌, ◌≤◌, ◌==◌, if◌then◌else◌, nat_le}

-- the greatest number up to `most` whose square is at most n
abbrev pub root_up_to : ℕ → ℕ → ℕ
root_up_to zero n = 0
root_up_to (suc most) n = if nat_le (suc most * suc most) n then suc most else root_up_to most n

-- the square root rounded down: the greatest r with r² ≤ n, which is never above n
unfoldable pub root_floor : ℕ → ℕ
root_floor n = root_up_to n n

-- the square root rounded up: the root rounded down where its square is n, else one more
unfoldable pub root_ceil : ℕ → ℕ
root_ceil n = if root_floor n * root_floor n == n then root_floor n else root_floor n + 1

-- the greatest number whose square is at most n
pub record IsFloorOfRoot (n r : ℕ) : Type 0 where
  pub at_most : r * r ≤ n
  pub greatest : (s : ℕ) → s * s ≤ n → s ≤ r

-- the least number whose square is at least n
pub record IsCeilingOfRoot (n r : ℕ) : Type 0 where
  pub at_least : n ≤ r * r
  pub least : (s : ℕ) → n ≤ s * s → r ≤ s
