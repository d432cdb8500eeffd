-- The times over stretches of a line.
use Rattle.std.proofs.Common.{◌≡◌, ℕ, zero, suc, ◌+◌, ◌-◌, ◌*◌, ◌<◌, ◌≤◌, List, slice_index, arith, refl, inl, inr}
use Rattle.std.proofs.lemmas.Bool.{cases_lt}
use Rattle.std.proofs.lemmas.Grind.{div_ceil_times}
use Rattle.std.specs.Int.{div_ceil}
use Rattle.time_brackets.specs.Sums.{HasSums, IsMoving, longest_at, shortest_at, sum_over}
use Rattle.time_brackets.specs.Times.{longest_time, slowest_metre, speed_rounded_down}
use Rattle.time_brackets.specs.declared.Bracket.{Bracket}
use Rattle.time_brackets.proofs.SumFacts.{HasSums-bounded, HasSums-join}
use Rattle.time_brackets.proofs.TimeFacts.{speeds_rounded_down-some}

-- the times over so many cells from a cell on
abbrev stretch : List ℕ → ℕ → ℕ → Bracket
stretch e cell count = record { lo = sum_over (shortest_at e) cell count; hi = sum_over (longest_at e) cell count }

stretch-sums : (e : List ℕ) (cell count : ℕ) → HasSums e cell count (stretch e cell count)
stretch-sums e cell count = record { lo = refl; hi = refl }

-- the longest time to a point is that to a point before it, and that over the cells between them
longest-join : (e : List ℕ) (from count : ℕ) → sum_over (longest_at e) 0 (from + count) ≡ sum_over (longest_at e) 0 from + sum_over (longest_at e) from count
longest-join e from count =
    let front = stretch e 0 from in
    let rest = stretch e from count in
    let both : Bracket = record { lo = front.lo + rest.lo; hi = front.hi + rest.hi } in
    let sums = HasSums-join e 0 from from count (from + count) front rest both (omega arith) refl (stretch-sums e 0 from) (stretch-sums e from count) refl refl in
    let joined : front.hi + rest.hi ≡ sum_over (longest_at e) 0 (from + count) = sums.hi in
    omega (arith, joined)

pub longest-join_at : (e : List ℕ) (from to : ℕ) → from ≤ to → sum_over (longest_at e) 0 to ≡ sum_over (longest_at e) 0 from + sum_over (longest_at e) from (to - from)
longest-join_at e from to ordered =
    let count : from + (to - from) ≡ to = omega arith in
    rw count at (longest-join e from (to - from))

-- a moving train takes no longer than a slowest metre over each cell
pub longest-short : (e : List ℕ) (n cell count : ℕ) → IsMoving e n → cell + count < n → sum_over (longest_at e) cell count ≤ count * slowest_metre
longest-short e n cell count moving on =
    let bounded = HasSums-bounded e n cell count (stretch e cell count) moving on (stretch-sums e cell count) in
    bounded.short

longest_time-some : (a b : ℕ) → 1 ≤ a + b → 0 < longest_time a b
unfolding longest_time
longest_time-some a b moving =
    let some = speeds_rounded_down-some a b moving in
    let up = div_ceil_times 720000000000000 (speed_rounded_down a + speed_rounded_down b) (omega arith) in
    elim (cases_lt 0 (div_ceil 720000000000000 (speed_rounded_down a + speed_rounded_down b))) [
      | inl g ↦ g
      | inr none ↦ absurd (grind (arith, up.0))
    ]

-- and it takes some time
pub longest-some : (e : List ℕ) (n cell count : ℕ) → IsMoving e n → cell + count < n → 0 < count → 0 < sum_over (longest_at e) cell count
unfolding sum_over
longest-some e n cell zero moving on some = absurd (omega arith)
longest-some e n cell (suc m) moving on some =
    let last = longest_time-some (slice_index e (cell + m)) (slice_index e (cell + m + 1)) (moving.moving (cell + m) (omega arith)) in
    omega (arith, last)
