-- Sums over cells.
use Rattle.std.proofs.Common.{◌≡◌, ℕ, zero, suc, ◌+◌, ◌*◌, ◌^◌, ◌<◌, ◌≤◌, List, slice_index, arith, ap}
use Rattle.unit_rules.specs.Limits.{longest_line}
use Rattle.time_brackets.specs.Sums.{HasSums, IsMoving, longest_at, shortest_at, sum_over}
use Rattle.time_brackets.specs.Times.{longest_time, shortest_time, slowest_metre}
use Rattle.time_brackets.specs.declared.Bracket.{Bracket}
use Rattle.time_brackets.proofs.TimeFacts.{longest_time-le, shortest_time-longest}

-- one sum after another
sum_over-join : (f : ℕ → ℕ) (from m n : ℕ) → sum_over f from (m + n) ≡ sum_over f from m + sum_over f (from + m) n
unfolding sum_over
sum_over-join f from m zero = let e : m + 0 ≡ m = omega arith in rw e (omega arith)
sum_over-join f from m (suc n) =
    let e : m + suc n ≡ suc (m + n) = omega arith in
    let h = sum_over-join f from m n in
    let g : f (from + (m + n)) ≡ f (from + m + n) = ap f (omega arith) in
    rw e (omega (arith, h, g))

sum_over-parts : (f : ℕ → ℕ) (from m start n count : ℕ) → start ≡ from + m → count ≡ m + n → sum_over f from count ≡ sum_over f from m + sum_over f start n
sum_over-parts f from m start n count s c = rw (c, s) (sum_over-join f from m n)

sum_over-one : (f : ℕ → ℕ) (cell : ℕ) → sum_over f cell 1 ≡ f cell
unfolding sum_over
sum_over-one f cell = let here : f (cell + 0) ≡ f cell = ap f (omega arith) in omega (arith, here)

-- a sum of terms that are nowhere greater is no greater
pub sum_over-mono : (f g : ℕ → ℕ) (from n : ℕ) → ((j : ℕ) → from ≤ j → j < from + n → f j ≤ g j) → sum_over f from n ≤ sum_over g from n
unfolding sum_over
sum_over-mono f g from zero h = omega arith
sum_over-mono f g from (suc n) h =
    let e = sum_over-mono f g from n (λ j l m. h j l (omega arith)) in
    let t = h (from + n) (omega arith) (omega arith) in
    omega (arith, e, t)

-- a sum of equal terms is the same
pub sum_over-same : (f g : ℕ → ℕ) (from n : ℕ) → ((j : ℕ) → from ≤ j → j < from + n → f j ≡ g j) → sum_over f from n ≡ sum_over g from n
sum_over-same f g from n h =
    let up = sum_over-mono f g from n (λ j l m. let e = h j l m in omega arith) in
    let down = sum_over-mono g f from n (λ j l m. let e = h j l m in omega arith) in
    omega arith

-- a sum of terms that are at most m
sum_over-le : (f : ℕ → ℕ) (m from n : ℕ) → ((j : ℕ) → from ≤ j → j < from + n → f j ≤ m) → sum_over f from n ≤ n * m
unfolding sum_over
sum_over-le f m from zero h = omega arith
sum_over-le f m from (suc n) h =
    let e = sum_over-le f m from n (λ j l k. h j l (omega arith)) in
    let t = h (from + n) (omega arith) (omega arith) in
    omega (arith, e, t)

-- no time has the sums over no cells
pub HasSums-none : (e : List ℕ) (cell count : ℕ) (times : Bracket) → count ≡ 0 → times.lo ≡ 0 → times.hi ≡ 0 → HasSums e cell count times
unfolding sum_over
HasSums-none e cell count times none lo hi = record { lo = rw none lo; hi = rw none hi }

-- the times between the speeds at two points are those over the cell between them
pub HasSums-cell : (e : List ℕ) (cell a b : ℕ) (times : Bracket) → a ≡ slice_index e cell → b ≡ slice_index e (cell + 1) → times.lo ≡ shortest_time a b → times.hi ≡ longest_time a b
    → HasSums e cell 1 times
HasSums-cell e cell a b times here next lo hi =
    let shortest : times.lo ≡ shortest_at e cell = rw (← here, ← next) lo in
    let longest : times.hi ≡ longest_at e cell = rw (← here, ← next) hi in
    let one = sum_over-one (shortest_at e) cell in
    let other = sum_over-one (longest_at e) cell in
    record { lo = omega arith; hi = omega arith }

-- the times over two stretches, one after the other, are those over both
pub HasSums-join : (e : List ℕ) (from m start n count : ℕ) (front rest both : Bracket) → start ≡ from + m → count ≡ m + n → HasSums e from m front → HasSums e start n rest
    → both.lo ≡ front.lo + rest.lo → both.hi ≡ front.hi + rest.hi → HasSums e from count both
HasSums-join e from m start n count front rest both s c p q lo hi =
    let shortest = sum_over-parts (shortest_at e) from m start n count s c in
    let longest = sum_over-parts (longest_at e) from m start n count s c in
    record { lo = omega (arith, p.lo, q.lo); hi = omega (arith, p.hi, q.hi) }

-- the times of a moving train over a stretch are in order, and bounded
pub record IsBounded (count : ℕ) (times : Bracket) : Type 0 where
  pub ordered : times.lo ≤ times.hi
  pub short : times.hi ≤ count * slowest_metre

pub HasSums-bounded : (e : List ℕ) (n cell count : ℕ) (times : Bracket) → IsMoving e n → cell + count < n → HasSums e cell count times → IsBounded count times
HasSums-bounded e n cell count times moving on sums =
    let moves : (j : ℕ) → cell ≤ j → j < cell + count → 1 ≤ slice_index e j + slice_index e (j + 1) = λ j l m. moving.moving j (omega arith) in
    let order = sum_over-mono (shortest_at e) (longest_at e) cell count (λ j l m. shortest_time-longest (slice_index e j) (slice_index e (j + 1)) (moves j l m)) in
    let most = sum_over-le (longest_at e) slowest_metre cell count (λ j l m. longest_time-le (slice_index e j) (slice_index e (j + 1)) (moves j l m)) in
    let lo = sums.lo in
    let hi = sums.hi in
    record { ordered = omega arith; short = omega arith }

-- so they can be added up over a line
pub IsBounded-plus : (m n : ℕ) (front rest : Bracket) → IsBounded m front → IsBounded n rest → m + n ≤ longest_line → (front.lo + rest.lo < 2 ^ 64) × (front.hi + rest.hi < 2 ^ 64)
IsBounded-plus m n front rest first second short =
    let hi : front.hi + rest.hi < 2 ^ 64 = omega (arith, first.short, second.short) in
    (omega (arith, first.ordered, second.ordered), hi)
