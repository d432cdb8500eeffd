-- The values of a curve up to its top speed.
use Rattle.std.proofs.Common.{◌≡◌, ℕ, ◌+◌, ◌-◌, ◌<◌, ◌≤◌, suc, ℤ, pos, ◌≤ℤ◌, List, [], ◌∷◌, All, length, map, get_or, add-one, ap, ◌∙◌, arith, inl, inr}
use Rattle.std.specs.List.{range_with_len}
use Rattle.std.proofs.lemmas.Bool.{cases_lt}
use Rattle.std.proofs.lemmas.Int.{ints}
use Rattle.std.proofs.lemmas.List.FromFn.{fill_by_all, get_or-map-range_with_len, length-map-range_with_len}
use Rattle.run_rules.specs.Grids.{row}
use Rattle.run_rules.proofs.GridFacts.{value_between-most, value_between-least}
use Rattle.stock_tables.specs.declared.curve.Row.{Row}
use Rattle.stock_tables.specs.Curve.{IsCurveTo, IsRow, speeds, curve_value, value_on, values_to}
use Rattle.stock_tables.proofs.CurveFacts.{RiseTo, find-behind, find-here, last-slow}

-- a value that is no less than the rows' and in the range of every table
pub record IsValue (low : ℕ) (z : ℤ) : Type 0 where
  pub least : pos low ≤ℤ z
  pub most : z ≤ℤ pos 3000000

IsValue-on : (low : ℕ) (a b : Row) (kmh : ℕ) → low ≤ a.value → low ≤ b.value → IsRow a → IsRow b → a.kmh ≤ kmh → kmh ≤ b.kmh → a.kmh < b.kmh → IsValue low (value_on (a, b) kmh)
IsValue-on low a b kmh la lb ra rb from to rises =
    let sa = ra.small in
    let sb = rb.small in
    record {
      least = value_between-least (pos a.value) (pos b.value) (pos low) (kmh - a.kmh) (b.kmh - a.kmh) (omega arith) (omega arith) (omega (arith, ints)) (omega (arith, ints));
      most = value_between-most (pos a.value) (pos b.value) (pos 3000000) (kmh - a.kmh) (b.kmh - a.kmh) (omega arith) (omega arith) (omega (arith, ints)) (omega (arith, ints));
    }

IsValue-from : (low : ℕ) (a b : Row) (rows : List Row) (kmh : ℕ) → All IsRow (a ∷ b ∷ rows) → All (λ r. low ≤ r.value) (a ∷ b ∷ rows) → RiseTo (length (a ∷ b ∷ rows)) (speeds (a ∷ b ∷ rows))
    → a.kmh ≤ kmh → kmh ≤ get_or (speeds (a ∷ b ∷ rows)) (suc (length rows)) 0 → IsValue low (curve_value (a ∷ b ∷ rows) kmh)
IsValue-from low a b [] kmh ranges least rises from to =
    rw (find-here a b [] kmh from to)
    (IsValue-on low a b kmh (least 0 a (omega arith)) (least 1 a (omega arith)) (ranges 0 a (omega arith)) (ranges 1 a (omega arith)) from to (rises 0 (omega arith)))
IsValue-from low a b (c ∷ rows) kmh ranges least rises from to =
    elim (cases_lt b.kmh kmh) [
      | inl behind ↦
          rw (find-behind a b (c ∷ rows) kmh behind)
          (IsValue-from low b c rows kmh (λ i d h. ranges (suc i) d (omega arith)) (λ i d h. least (suc i) d (omega arith)) (λ i h. rises (suc i) (omega arith)) (omega arith) to)
      | inr near ↦
          rw (find-here a b (c ∷ rows) kmh from near)
          (IsValue-on low a b kmh (least 0 a (omega arith)) (least 1 a (omega arith)) (ranges 0 a (omega arith)) (ranges 1 a (omega arith)) from near (rises 0 (omega arith)))
    ]

pub IsValue-at : (low top : ℕ) (rows : List Row) (kmh : ℕ) → IsCurveTo top rows → All (λ r. low ≤ r.value) rows → kmh ≤ top → IsValue low (curve_value rows kmh)
IsValue-at low top [] kmh c least h = let some = c.curve.some in absurd (omega arith)
IsValue-at low top (a ∷ []) kmh c least h = let some = c.curve.some in absurd (omega arith)
IsValue-at low top (a ∷ b ∷ rows) kmh c least h =
    let starts = c.curve.starts in
    let place : length (a ∷ b ∷ rows) - 1 ≡ suc (length rows) = omega arith in
    let ends = rw place at c.ends in
    IsValue-from low a b rows kmh c.curve.ranges least (λ i l. rw add-one at (c.curve.rises i (omega arith))) (omega arith) (omega arith)

pub length-values_to : (top : ℕ) (rows : List Row) → length (values_to top rows) ≡ top + 1
length-values_to top rows = length-map-range_with_len (curve_value rows) 0 (top + 1)

row-values_to : (top : ℕ) (rows : List Row) (kmh : ℕ) → kmh < top + 1 → row (values_to top rows) kmh ≡ curve_value rows kmh
row-values_to top rows kmh h = get_or-map-range_with_len (curve_value rows) 0 (top + 1) kmh kmh (pos 0) h (omega arith)

-- the values that were computed are in range
pub IsValue-row : (low top : ℕ) (rows : List Row) (values : List ℤ) → values ≡ values_to top rows → IsCurveTo top rows → All (λ r. low ≤ r.value) rows
    → (k : ℕ) → k < length values → IsValue low (row values k)
IsValue-row low top rows values e c least k h =
    let within : k < top + 1 = omega (arith, ap (λ (q : List ℤ). length q) e, length-values_to top rows) in
    rw (e, row-values_to top rows k within) (IsValue-at low top rows k c least (omega arith))

pub length-values : (top : ℕ) (rows : List Row) (values : List ℤ) → values ≡ values_to top rows → length values ≡ top + 1
length-values top rows values e = rw e (length-values_to top rows)

pub top-slow : (top : ℕ) (rows : List Row) → IsCurveTo top rows → top ≤ 500
top-slow top rows c = let l = last-slow rows c.curve in let e = c.ends in omega arith

-- what is made of each of the computed values is made of each value of the curve
pub map-values : (f : ℕ → ℤ → ℤ) (top : ℕ) (rows : List Row) (values : List ℤ) → values ≡ values_to top rows
    → map (λ k. f k (row values k)) (range_with_len 0 (length values)) ≡ map (λ k. f k (curve_value rows k)) (range_with_len 0 (top + 1))
map-values f top rows values e =
    let long = length-values top rows values e in
    rw long
    (fill_by_all (λ k. f k (curve_value rows k)) (map (λ k. f k (row values k)) (range_with_len 0 (top + 1))) (top + 1) (pos 0)
    (length-map-range_with_len (λ k. f k (row values k)) 0 (top + 1))
    (λ k h. get_or-map-range_with_len (λ j. f j (row values j)) 0 (top + 1) k k (pos 0) h (omega arith) ∙ ap (λ (z : ℤ). f k z) (ap (λ (q : List ℤ). row q k) e ∙ row-values_to top rows k h)))
