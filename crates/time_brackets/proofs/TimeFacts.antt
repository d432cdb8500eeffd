-- The bounds of a step's time enclose the true time.
use Rattle.std.proofs.Common.{◌≡◌, ℕ, ◌+◌, ◌-◌, ◌*◌, ◌/◌, ◌<◌, ◌≤◌, arith, refl, ap, inl, inr, mul-le-mul, mul-le-mul_left, mul-le-mul_right}
use Rattle.std.proofs.Math.Nat.{div-mul-le_self, le_of_mul-le-mul_left, div-le_of_le-mul}
use Rattle.std.proofs.lemmas.Bool.{cases_lt}
use Rattle.std.proofs.lemmas.Grind.{div_ceil_times}
use Rattle.std.specs.Int.{div_ceil}
use Rattle.unit_rules.specs.Roots.{root_ceil, root_floor}
use Rattle.unit_rules.proofs.RootFacts.{root_ceil-least, root_floor-ceil, root_floor-greatest, squares}
use Rattle.time_brackets.specs.Times.{AreSpeeds, AreTimes, IsNotLonger, IsNotShorter, longest_time, shortest_time, speed_rounded_down, speed_rounded_up, two_metres_squared}

-- x and y are upper bounds of the roots of s·X and s·Y, whose sum's square is at most s·M
record Above (s X Y x y M : ℕ) : Type 0 where
  some : 0 < s
  first : s * X ≤ x * x
  second : s * Y ≤ y * y
  both : (x + y) * (x + y) ≤ s * M

Above-sum : (s X Y x y M : ℕ) → Above s X Y x y M → X + Y ≤ M
Above-sum s X Y x y M h =
    let p = h.first in
    let q = h.second in
    let r = h.both in
    le_of_mul-le-mul_left {k = s} (omega arith) h.some

Above-product : (s X Y x y M D : ℕ) → Above s X Y x y M → D + (X + Y) ≡ M → 4 * (X * Y) ≤ D * D
Above-product s X Y x y M D h e =
    let p = h.first in
    let q = h.second in
    let r = h.both in
    let whole : s * (D + (X + Y)) ≡ s * M = ap (λ z. s * z) e in
    let twice : 2 * (x * y) ≤ s * D = omega arith in
    let square : 2 * (x * y) * (2 * (x * y)) ≤ s * D * (s * D) = mul-le-mul twice twice in
    let product : s * X * (s * Y) ≤ x * x * (y * y) = mul-le-mul p q in
    let scaled : s * s * (4 * (X * Y)) ≤ s * s * (D * D) = omega arith in
    let some : 0 < s * s = mul-le-mul h.some h.some in
    le_of_mul-le-mul_left {k = s * s} scaled some

-- the other way round
record Below (s X Y x y M : ℕ) : Type 0 where
  some : 0 < s
  first : x * x ≤ s * X
  second : y * y ≤ s * Y
  both : s * M ≤ (x + y) * (x + y)

Below-product : (s X Y x y M D : ℕ) → Below s X Y x y M → D + (X + Y) ≡ M → D * D ≤ 4 * (X * Y)
Below-product s X Y x y M D h e =
    let p = h.first in
    let q = h.second in
    let r = h.both in
    let whole : s * (D + (X + Y)) ≡ s * M = ap (λ z. s * z) e in
    let twice : s * D ≤ 2 * (x * y) = omega arith in
    let square : s * D * (s * D) ≤ 2 * (x * y) * (2 * (x * y)) = mul-le-mul twice twice in
    let product : x * x * (y * y) ≤ s * X * (s * Y) = mul-le-mul p q in
    let scaled : s * s * (D * D) ≤ s * s * (4 * (X * Y)) = omega arith in
    let some : 0 < s * s = mul-le-mul h.some h.some in
    le_of_mul-le-mul_left {k = s * s} scaled some

scaled : (n m p : ℕ) → m ≤ p → n * n * m ≤ n * n * p
scaled n m p h = mul-le-mul_left (n * n) h

-- n is a time in which speeds above the true ones, in thousandths, add up to no more than a unit
above_of : (n a b A B : ℕ) → 1000000 * a ≤ A * A → 1000000 * b ≤ B * B → n * (A + B) ≤ 720000000000000 → Above 1000000 (n * n * a) (n * n * b) (n * A) (n * B) two_metres_squared
above_of n a b A B f g h =
    let square : n * (A + B) * (n * (A + B)) ≤ 720000000000000 * 720000000000000 = mul-le-mul h h in
    let p = scaled n (1000000 * a) (A * A) f in
    let q = scaled n (1000000 * b) (B * B) g in
    record { some = omega arith; first = omega arith; second = omega arith; both = omega arith }

below_of : (n a b A B : ℕ) → A * A ≤ 1000000 * a → B * B ≤ 1000000 * b → 720000000000000 ≤ n * (A + B) → Below 1000000 (n * n * a) (n * n * b) (n * A) (n * B) two_metres_squared
below_of n a b A B f g h =
    let square : 720000000000000 * 720000000000000 ≤ n * (A + B) * (n * (A + B)) = mul-le-mul h h in
    let p = scaled n (A * A) (1000000 * a) f in
    let q = scaled n (B * B) (1000000 * b) g in
    record { some = omega arith; first = omega arith; second = omega arith; both = omega arith }

pub IsNotLonger-above : (n a b A B : ℕ) → 1000000 * a ≤ A * A → 1000000 * b ≤ B * B → n * (A + B) ≤ 720000000000000 → IsNotLonger n a b
IsNotLonger-above n a b A B f g h =
    let k = above_of n a b A B f g h in
    let sum : n * n * a + n * n * b ≤ two_metres_squared = Above-sum 1000000 (n * n * a) (n * n * b) (n * A) (n * B) two_metres_squared k in
    let squares : n * n * (a + b) ≤ two_metres_squared = omega arith in
    let product = Above-product 1000000 (n * n * a) (n * n * b) (n * A) (n * B) two_metres_squared (two_metres_squared - n * n * (a + b)) k (omega arith) in
    record { squares = squares; products = omega arith }

pub IsNotShorter-below : (n a b A B : ℕ) → A * A ≤ 1000000 * a → B * B ≤ 1000000 * b → 720000000000000 ≤ n * (A + B) → IsNotShorter n a b
IsNotShorter-below n a b A B f g h = elim (cases_lt (n * n * (a + b)) two_metres_squared) [
  | inl less ↦
      let product = Below-product 1000000 (n * n * a) (n * n * b) (n * A) (n * B) two_metres_squared (two_metres_squared - n * n * (a + b)) (below_of n a b A B f g h) (omega arith) in
      inr (omega arith)
  | inr more ↦ inl more
]

-- a squared speed above 0 has a speed of at least 1000
pub speed_rounded_down-some : (u : ℕ) → 1 ≤ u → 1000 ≤ speed_rounded_down u
unfolding speed_rounded_down
speed_rounded_down-some u h = let r = root_floor-greatest (1000000 * u) in r.greatest 1000 (omega arith)

pub speed_rounded_down-square : (u : ℕ) → speed_rounded_down u * speed_rounded_down u ≤ 1000000 * u
unfolding speed_rounded_down
speed_rounded_down-square u = let r = root_floor-greatest (1000000 * u) in r.at_most

pub speed_rounded_up-square : (u : ℕ) → 1000000 * u ≤ speed_rounded_up u * speed_rounded_up u
unfolding speed_rounded_up
speed_rounded_up-square u = let r = root_ceil-least (1000000 * u) in r.at_least

pub speed_rounded_up-some : (u : ℕ) → 1 ≤ u → 1000 ≤ speed_rounded_up u
speed_rounded_up-some u h =
    let square = speed_rounded_up-square u in
    elim (cases_lt (speed_rounded_up u) 1000) [
      | inl less ↦ let small = squares (speed_rounded_up u) 999 (omega arith) in absurd (omega arith)
      | inr g ↦ g
    ]

pub speed_rounded_down-up : (u : ℕ) → speed_rounded_down u ≤ speed_rounded_up u
unfolding speed_rounded_down speed_rounded_up
speed_rounded_down-up u = root_floor-ceil (1000000 * u)

-- where one of two squared speeds is above 0, their speeds add up to at least 1000
pub speeds_rounded_down-some : (a b : ℕ) → 1 ≤ a + b → 1000 ≤ speed_rounded_down a + speed_rounded_down b
speeds_rounded_down-some a b h = elim (cases_lt a 1) [
  | inl none ↦ let some = speed_rounded_down-some b (omega arith) in omega arith
  | inr some ↦ let first = speed_rounded_down-some a some in omega arith
]

pub speeds_rounded_up-some : (a b : ℕ) → 1 ≤ a + b → 1000 ≤ speed_rounded_up a + speed_rounded_up b
speeds_rounded_up-some a b h = elim (cases_lt a 1) [
  | inl none ↦ let some = speed_rounded_up-some b (omega arith) in omega arith
  | inr some ↦ let first = speed_rounded_up-some a some in omega arith
]

pub AreSpeeds-some : (a b down other_down up other_up : ℕ) → AreSpeeds a down up → AreSpeeds b other_down other_up → 1 ≤ a + b → (1000 ≤ down + other_down) × (1000 ≤ up + other_up)
AreSpeeds-some a b down other_down up other_up first second h =
    let some = speeds_rounded_down-some a b h in
    let more = speeds_rounded_up-some a b h in
    (omega (arith, first.rounded_down, second.rounded_down), omega (arith, first.rounded_up, second.rounded_up))

-- the speeds by the roots of a number that is the squared speed
pub speed_rounded_down-is : (u n down : ℕ) → n ≡ u → down ≡ root_floor (1000000 * n) → down ≡ speed_rounded_down u
unfolding speed_rounded_down
speed_rounded_down-is u n down e f = rw (← e) f

pub speed_rounded_up-is : (u n up : ℕ) → n ≡ u → up ≡ root_ceil (1000000 * n) → up ≡ speed_rounded_up u
unfolding speed_rounded_up
speed_rounded_up-is u n up e f = rw (← e) f

pub shortest_time-is : (a b A B : ℕ) → A ≡ speed_rounded_up a → B ≡ speed_rounded_up b → 720000000000000 / (A + B) ≡ shortest_time a b
unfolding shortest_time
shortest_time-is a b A B e f = rw (e, f) refl

pub longest_time-is : (a b A B t : ℕ) → A ≡ speed_rounded_down a → B ≡ speed_rounded_down b → t ≡ div_ceil 720000000000000 (A + B) → t ≡ longest_time a b
unfolding longest_time
longest_time-is a b A B t e f g = rw (← e, ← f) g

pub shortest_time-encloses : (a b : ℕ) → IsNotLonger (shortest_time a b) a b
unfolding shortest_time
shortest_time-encloses a b =
    IsNotLonger-above (720000000000000 / (speed_rounded_up a + speed_rounded_up b)) a b (speed_rounded_up a) (speed_rounded_up b) (speed_rounded_up-square a) (speed_rounded_up-square b)
    (div-mul-le_self 720000000000000 (speed_rounded_up a + speed_rounded_up b))

pub longest_time-encloses : (a b : ℕ) → 1 ≤ a + b → IsNotShorter (longest_time a b) a b
unfolding longest_time
longest_time-encloses a b h =
    let some = speeds_rounded_down-some a b h in
    let rounded = div_ceil_times 720000000000000 (speed_rounded_down a + speed_rounded_down b) (omega arith) in
    IsNotShorter-below (div_ceil 720000000000000 (speed_rounded_down a + speed_rounded_down b)) a b (speed_rounded_down a) (speed_rounded_down b) (speed_rounded_down-square a) (speed_rounded_down-square b) rounded.0

-- no step takes longer than the first from a standstill to the least speed
pub longest_time-le : (a b : ℕ) → 1 ≤ a + b → longest_time a b ≤ 720000000000
unfolding longest_time
longest_time-le a b h =
    let d = speed_rounded_down a + speed_rounded_down b in
    let some : 1000 ≤ d = speeds_rounded_down-some a b h in
    let rounded = div_ceil_times 720000000000000 d (omega arith) in
    elim (cases_lt 720000000000 (div_ceil 720000000000000 d)) [
      | inl more ↦ let product : 720000000001 * d ≤ div_ceil 720000000000000 d * d = mul-le-mul_right d more in absurd (omega (arith, rounded.1))
      | inr g ↦ g
    ]

-- the shortest time is no longer than the longest
pub shortest_time-longest : (a b : ℕ) → 1 ≤ a + b → shortest_time a b ≤ longest_time a b
unfolding shortest_time longest_time
shortest_time-longest a b h =
    let down = speed_rounded_down a + speed_rounded_down b in
    let up = speed_rounded_up a + speed_rounded_up b in
    let some : 1000 ≤ down = speeds_rounded_down-some a b h in
    let first = speed_rounded_down-up a in
    let second = speed_rounded_down-up b in
    let rounded = div_ceil_times 720000000000000 down (omega arith) in
    let product : div_ceil 720000000000000 down * down ≤ div_ceil 720000000000000 down * up = mul-le-mul_left (div_ceil 720000000000000 down) (omega arith) in
    div-le_of_le-mul up (omega (arith, rounded.0))

-- the times between the same squared speeds are the same
pub AreTimes-same : (a b c d lo hi : ℕ) → AreTimes a b lo hi → a ≡ c → b ≡ d → 1 ≤ c + d → (lo ≡ shortest_time c d) × (hi ≡ longest_time c d)
AreTimes-same a b c d lo hi times e f h = (rw (← e, ← f) (times.shortest (omega arith)), rw (← e, ← f) (times.longest (omega arith)))
