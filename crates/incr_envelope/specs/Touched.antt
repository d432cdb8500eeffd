-- The points that an edit touches.
use Rattle.std.specs.Prelude.{ℕ, zero, suc, ◌+◌, Bool, ◌||◌, ◌==◌, not, nat_lt, if◌then◌else◌, List, length, slice_index}

-- how many of the points below n pass a test
abbrev pub count_below : (ℕ → Bool) → ℕ → ℕ
count_below test zero = 0
count_below test (suc n) = count_below test n + (if test n then 1 else 0)

-- what a list has at a point: one more than its number, or 0 where it has none
abbrev pub value_at : List ℕ → ℕ → ℕ
value_at e i = if nat_lt i (length e) then slice_index e i + 1 else 0

-- whether two lists have other values at a point
abbrev pub differ_at : List ℕ → List ℕ → ℕ → Bool
differ_at d e i = not (value_at d i == value_at e i)

-- braking numbers and squared speeds by point
pub record Lists : Type 0 where
  pub brakes : List ℕ
  pub speeds : List ℕ

-- how many of the points below n are touched: those at which a zone binds, or the braking numbers or the speeds differ
abbrev pub touched : (ℕ → Bool) → Lists → Lists → ℕ → ℕ
touched binds before after n =
    count_below (λ i. binds i || differ_at before.brakes after.brakes i || differ_at before.speeds after.speeds i) n
