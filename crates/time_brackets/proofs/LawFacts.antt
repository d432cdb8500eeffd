-- Faster trains take no longer.
use Rattle.std.proofs.Common.{ℕ, ◌+◌, ◌-◌, ◌*◌, ◌/◌, ◌<◌, ◌≤◌, arith, inl, inr, mul-le-mul, mul-le-mul_left, mul-le-mul_right}
use Rattle.std.proofs.Math.Nat.{div-mul-le_self}
use Rattle.std.proofs.lemmas.Bool.{cases_lt}
use Rattle.std.proofs.lemmas.Grind.{div_ceil_times}
use Rattle.std.proofs.lemmas.Nat.{le-div}
use Rattle.std.specs.Int.{div_ceil}
use Rattle.unit_rules.proofs.RootFacts.{root_ceil-mono, root_floor-mono}
use Rattle.time_brackets.specs.Laws.{SlowerTakesNoLess, SumsNeverRise, TimesNeverRise}
use Rattle.time_brackets.specs.Sums.{shortest_at, longest_at}
use Rattle.time_brackets.specs.Times.{shortest_time, longest_time, speed_rounded_up, speed_rounded_down, two_metres_squared}
use Rattle.time_brackets.proofs.SumFacts.{sum_over-mono}
use Rattle.time_brackets.proofs.TimeFacts.{speeds_rounded_up-some, speeds_rounded_down-some}

speed_rounded_down-mono : (u v : ℕ) → u ≤ v → speed_rounded_down u ≤ speed_rounded_down v
unfolding speed_rounded_down
speed_rounded_down-mono u v h = root_floor-mono (1000000 * u) (1000000 * v) (omega arith)

speed_rounded_up-mono : (u v : ℕ) → u ≤ v → speed_rounded_up u ≤ speed_rounded_up v
unfolding speed_rounded_up
speed_rounded_up-mono u v h = root_ceil-mono (1000000 * u) (1000000 * v) (omega arith)

-- quotients by a greater number
div-falls : (n d e : ℕ) → 0 < d → d ≤ e → n / e ≤ n / d
div-falls n d e s h =
    let whole = div-mul-le_self n e in
    let part : n / e * d ≤ n / e * e = mul-le-mul_left (n / e) h in
    le-div (n / e) n d s (omega arith)

div_ceil-le : (n d t : ℕ) → 0 < d → n ≤ t * d → div_ceil n d ≤ t
div_ceil-le n d t s h =
    let up = div_ceil_times n d s in
    elim (cases_lt t (div_ceil n d)) [
      | inl more ↦ let product : (t + 1) * d ≤ div_ceil n d * d = mul-le-mul_right d (omega arith) in absurd (omega (arith, up.1))
      | inr g ↦ g
    ]

div_ceil-falls : (n d e : ℕ) → 0 < d → d ≤ e → div_ceil n e ≤ div_ceil n d
div_ceil-falls n d e s h =
    let up = div_ceil_times n d s in
    let part : div_ceil n d * d ≤ div_ceil n d * e = mul-le-mul_left (div_ceil n d) h in
    div_ceil-le n e (div_ceil n d) (omega arith) (omega (arith, up.0))

shortest_time-falls : (a b c d : ℕ) → 1 ≤ a + b → a ≤ c → b ≤ d → shortest_time c d ≤ shortest_time a b
unfolding shortest_time
shortest_time-falls a b c d some h k =
    let p = speed_rounded_up-mono a c h in
    let q = speed_rounded_up-mono b d k in
    let s = speeds_rounded_up-some a b some in
    div-falls 720000000000000 (speed_rounded_up a + speed_rounded_up b) (speed_rounded_up c + speed_rounded_up d) (omega arith) (omega arith)

longest_time-falls : (a b c d : ℕ) → 1 ≤ a + b → a ≤ c → b ≤ d → longest_time c d ≤ longest_time a b
unfolding longest_time
longest_time-falls a b c d some h k =
    let p = speed_rounded_down-mono a c h in
    let q = speed_rounded_down-mono b d k in
    let s = speeds_rounded_down-some a b some in
    div_ceil-falls 720000000000000 (speed_rounded_down a + speed_rounded_down b) (speed_rounded_down c + speed_rounded_down d) (omega arith) (omega arith)

pub times_never_rise : TimesNeverRise
times_never_rise a b c d some h k = (shortest_time-falls a b c d some h k, longest_time-falls a b c d some h k)

pub slower_takes_no_less : SlowerTakesNoLess
slower_takes_no_less n a b c d some h k l =
    let sum : n * n * (a + b) ≤ n * n * (c + d) = mul-le-mul_left (n * n) (omega arith) in
    let squares = l.squares in
    let products = l.products in
    let fewer : a * b ≤ c * d = mul-le-mul h k in
    let scaled : 4 * (n * n * (n * n)) * (a * b) ≤ 4 * (n * n * (n * n)) * (c * d) = mul-le-mul_left (4 * (n * n * (n * n))) fewer in
    let rest : two_metres_squared - n * n * (c + d) ≤ two_metres_squared - n * n * (a + b) = omega arith in
    let more : (two_metres_squared - n * n * (c + d)) * (two_metres_squared - n * n * (c + d)) ≤ (two_metres_squared - n * n * (a + b)) * (two_metres_squared - n * n * (a + b)) = mul-le-mul rest rest in
    record { squares = omega arith; products = omega arith }

pub sums_never_rise : SumsNeverRise
sums_never_rise q e n from cells moving slower on = (
  sum_over-mono (shortest_at e) (shortest_at q) from cells (λ j l m. shortest_time-falls _ _ _ _ (moving.moving j (omega arith)) (slower j (omega arith)) (slower (j + 1) (omega arith))),
  sum_over-mono (longest_at e) (longest_at q) from cells (λ j l m. longest_time-falls _ _ _ _ (moving.moving j (omega arith)) (slower j (omega arith)) (slower (j + 1) (omega arith))),
)
