-- Gradients by the slopes that are still ahead, and their sums.
use Rattle.std.proofs.Common.{◌≡◌, ◌≤◌, ◌<◌, ◌+◌, ◌-◌, ◌*◌, ℕ, zero, suc, List, [], ◌∷◌, All, Some, ℤ, pos, neg_ℤ, ◌≤ℤ◌, ◌+ℤ◌, ◌-ℤ◌, true, false, cond, nat_le, nat_lt, ◌&&◌, refl, arith, add-zero, inl, inr}
use Rattle.std.proofs.lemmas.Int.{ints}
use Rattle.std.proofs.lemmas.Bool.{cases_lt}
use Rattle.std.proofs.lemmas.List.Elements.{All-head, All-tail}
use Rattle.std.specs.Prelude.{slice_get}
use Rattle.std.proofs.lemmas.Bool.Decides.{nat_tests}
use Rattle.line_tables.specs.declared.line.Slope.{Slope}
use Rattle.train_mean.specs.Gradients.{gradient_at, sum_from}
use Rattle.train_mean.specs.Windows.{AreSlopes}

-- slopes that begin after a cell don't tell its gradient
pub gradient_at-before : (slopes : List Slope) (start cell : ℕ) → All (λ s. start ≤ s.from) slopes → cell < start → gradient_at slopes cell ≡ pos 0
gradient_at-before [] start cell a h = refl
gradient_at-before (s ∷ rest) start cell a h =
    let here = All-head (λ s. start ≤ s.from) s rest a in
    let outside : (nat_le s.from cell && nat_lt cell s.to) ≡ false = grind (arith, nat_tests, here, h) in
    rw outside (gradient_at-before rest start cell (All-tail (λ s. start ≤ s.from) s rest a) h)

-- the gradient at a cell before the first slope
pub gradient_at-first : (slopes : List Slope) (cell : ℕ) (first : Slope) → Some first ≡ slice_get slopes 0 → AreSlopes slopes → cell < first.from → gradient_at slopes cell ≡ pos 0
gradient_at-first [] cell first e a l = refl
gradient_at-first (s ∷ rest) cell first e a l =
    let same : first ≡ s = cc in
    let before : cell < s.from = rw same at l in
    let outside : (nat_le s.from cell && nat_lt cell s.to) ≡ false = grind (arith, nat_tests, before) in
    let rises = a.0.rises in
    rw outside (gradient_at-before rest s.to cell a.1 (omega (arith, before, rises)))

-- one value more at the end of a sum, or one at its beginning
pub sum_from-shift : (value : ℕ → ℤ) (cell count : ℕ) → sum_from value cell (suc count) ≡ value cell +ℤ sum_from value (cell + 1) count
sum_from-shift value cell zero = rw add-zero (omega (arith, ints))
sum_from-shift value cell (suc count) =
    let rest = sum_from-shift value cell count in
    let same : cell + suc count ≡ cell + 1 + count = omega arith in
    rw same (omega (arith, ints, rest))

-- a sum of values that are at most 1000 either way
pub sum_from-most : (value : ℕ → ℤ) (cell count : ℕ) → ((c : ℕ) → value c ≤ℤ pos 1000) → sum_from value cell count ≤ℤ pos (1000 * count)
sum_from-most value cell zero h = omega (arith, ints)
sum_from-most value cell (suc count) h = let rest = sum_from-most value cell count h in let one = h (cell + count) in omega (arith, ints)

pub sum_from-least : (value : ℕ → ℤ) (cell count : ℕ) → ((c : ℕ) → neg_ℤ (pos 1000) ≤ℤ value c) → neg_ℤ (pos (1000 * count)) ≤ℤ sum_from value cell count
sum_from-least value cell zero h = omega (arith, ints)
sum_from-least value cell (suc count) h = let rest = sum_from-least value cell count h in let one = h (cell + count) in omega (arith, ints)

-- a train that is still entering the line
short : (value : ℕ → ℤ) (train cell : ℕ) → cell < train
    → (sum_from value (cell - train) (cell - (cell - train)) +ℤ value cell) -ℤ cond (nat_le train cell) (value (cell - train)) (pos 0)
    ≡ sum_from value (cell + 1 - train) (cell + 1 - (cell + 1 - train))
short value train cell h =
    let none : nat_le train cell ≡ false = grind (arith, nat_tests, h) in
    let start : cell - train ≡ 0 = omega arith in
    let next : cell + 1 - train ≡ 0 = omega arith in
    let count : cell - 0 ≡ cell = omega arith in
    let more : cell + 1 - 0 ≡ suc cell = omega arith in
    let place : 0 + cell ≡ cell = omega arith in
    rw (none, start, next, count, more, place) (omega (arith, ints))

-- and one that leaves a cell for each that it enters
long : (value : ℕ → ℤ) (train cell : ℕ) → train ≤ cell
    → (sum_from value (cell - train) (cell - (cell - train)) +ℤ value cell) -ℤ cond (nat_le train cell) (value (cell - train)) (pos 0)
    ≡ sum_from value (cell + 1 - train) (cell + 1 - (cell + 1 - train))
long value train cell h =
    let some : nat_le train cell ≡ true = grind (arith, nat_tests, h) in
    let next : cell + 1 - train ≡ (cell - train) + 1 = omega arith in
    let count : cell - (cell - train) ≡ train = omega arith in
    let more : cell + 1 - (cell - train + 1) ≡ train = omega arith in
    let place : (cell - train) + train ≡ cell = omega arith in
    let shift = rw place at (sum_from-shift value (cell - train) train) in
    rw (some, next, count, more) (omega (arith, ints, shift))

-- the sum under a train that moves on by a cell
pub sum_from-moved : (value : ℕ → ℤ) (train cell : ℕ)
    → (sum_from value (cell - train) (cell - (cell - train)) +ℤ value cell) -ℤ cond (nat_le train cell) (value (cell - train)) (pos 0)
    ≡ sum_from value (cell + 1 - train) (cell + 1 - (cell + 1 - train))
sum_from-moved value train cell = elim (cases_lt cell train) [ inl h ↦ short value train cell h | inr h ↦ long value train cell h ]
