-- Rows in order.
use Rattle.std.proofs.Common.{◌≡◌, ℕ, ◌+◌, ◌-◌, ◌<◌, ◌≤◌, zero, suc, Bool, true, false, ◌&&◌, ◌==◌, nat_lt, nat_le, List, [], ◌∷◌, All, length, get_or, drop, add-one, refl, sym, ap, ◌∙◌, arith, inl, inr, ℤ, pos, ◌+ℤ◌, ◌-ℤ◌, ◌*ℤ◌, to_z, of_z, w64}
use Rattle.std.proofs.lemmas.Int.{ints}
use Rattle.unit_rules.specs.Quotients.{floor_div}
use Rattle.run_rules.proofs.GridFacts.{value_between-most, value_between-least}
use Rattle.std.proofs.lemmas.Bool.{and_parts, cases_Bool, cases_eq}
use Rattle.std.proofs.lemmas.Bool.Decides.{nat_tests}
use Rattle.std.proofs.lemmas.List.{drop_more, get_or-map, length-map}
use Rattle.stock_tables.specs.declared.curve.Row.{Row}
use Rattle.stock_tables.specs.Walk.{IsPassed}
use Rattle.stock_tables.specs.Curve.{IsCurve, IsCurveTo, IsRow, are_in_order, is_rising, speeds, curve_value, value_on}

nat_lt-true : (x y : ℕ) → nat_lt x y ≡ true → x < y
nat_lt-true x y e = grind (arith, nat_tests, e)

true-nat_lt : (x y : ℕ) → x < y → nat_lt x y ≡ true
true-nat_lt x y h = grind (arith, nat_tests, h)

and-false : (a : Bool) → (a && false) ≡ false
and-false true = refl
and-false false = refl

-- each of the first n numbers is below the next
abbrev pub RiseTo : ℕ → List ℕ → Type 0
RiseTo n xs = (i : ℕ) → suc i < n → get_or xs i 0 < get_or xs (suc i) 0

is_rising-at : (xs : List ℕ) → is_rising xs ≡ true → RiseTo (length xs) xs
is_rising-at [] e i h = absurd (omega arith)
is_rising-at (x ∷ []) e i h = absurd (omega arith)
is_rising-at (x ∷ y ∷ xs) e zero h = nat_lt-true x y (and_parts (nat_lt x y) (is_rising (y ∷ xs)) e).0
is_rising-at (x ∷ y ∷ xs) e (suc i) h = is_rising-at (y ∷ xs) (and_parts (nat_lt x y) (is_rising (y ∷ xs)) e).1 i (omega arith)

rises-each : (xs : List ℕ) → RiseTo (length xs) xs → is_rising xs ≡ true
rises-each [] h = refl
rises-each (x ∷ []) h = refl
rises-each (x ∷ y ∷ xs) h =
    let first : nat_lt x y ≡ true = true-nat_lt x y (h 0 (omega arith)) in
    rw first (rises-each (y ∷ xs) (λ i b. h (suc i) (omega arith)))

-- what the code reads past the end of rows
abbrev pub no_row : Row
no_row = record { kmh = 0; value = 0 }

-- the speed of the row at a place
pub speeds-at : (rows : List Row) (i : ℕ) → i < length rows → get_or (speeds rows) i 0 ≡ (get_or rows i no_row).kmh
speeds-at rows i h = get_or-map (λ r. r.kmh) rows i no_row 0 h

pub length-speeds : (rows : List Row) → length (speeds rows) ≡ length rows
length-speeds rows = length-map rows (λ r. r.kmh)

pub is_rising-each : (rows : List Row) (n : ℕ) → length rows ≤ n → RiseTo n (speeds rows) → true ≡ is_rising (speeds rows)
is_rising-each rows n long rise = sym (rises-each (speeds rows) (λ i h. rise i (omega (arith, length-speeds rows))))

pub rises_more : (rows : List Row) (n : ℕ) → 1 ≤ n → n < length rows → RiseTo n (speeds rows)
    → (get_or rows (n - 1) no_row).kmh < (get_or rows n no_row).kmh → RiseTo (n + 1) (speeds rows)
rises_more rows n some within rise last i h =
    elim (cases_eq (suc i) n) [
      | inl e ↦
          let k : i ≡ n - 1 = omega arith in
          rw (e, k, speeds-at rows (n - 1) (omega arith), speeds-at rows n within) last
      | inr ne ↦ rise i (omega arith)
    ]

pub not_rising : (rows : List Row) (n : ℕ) → 1 ≤ n → n < length rows → (get_or rows n no_row).kmh ≤ (get_or rows (n - 1) no_row).kmh → false ≡ is_rising (speeds rows)
not_rising rows n some within falls =
    elim (cases_Bool (is_rising (speeds rows))) [
      | inl rise ↦
          let e : suc (n - 1) ≡ n = omega arith in
          let up = is_rising-at (speeds rows) rise (n - 1) (omega (arith, length-speeds rows)) in
          let up' = rw (e, speeds-at rows (n - 1) (omega arith), speeds-at rows n within) at up in
          absurd (omega arith)
      | inr not ↦ sym not
    ]

-- rows in order are a curve up to the top speed
pub IsCurveTo-ordered : (top : ℕ) (rows : List Row) → are_in_order top rows ≡ true → All IsRow rows → IsCurveTo top rows
IsCurveTo-ordered top rows e ranges =
    let enough = nat_le 2 (length rows) in
    let first = (get_or (speeds rows) 0 0 == 0) in
    let last = (get_or (speeds rows) (length rows - 1) 0 == top) in
    let rise = and_parts (enough && first && last) (is_rising (speeds rows)) e in
    let ends = and_parts (enough && first) last rise.0 in
    let some = and_parts enough first ends.0 in
    record {
      curve = record {
        some = grind (arith, nat_tests, some);
        starts = grind (arith, nat_tests, some);
        rises = λ i h. rw add-one (is_rising-at (speeds rows) rise.1 i (omega (arith, length-speeds rows)));
        ranges = ranges;
      };
      ends = grind (arith, nat_tests, ends);
    }

-- a row that lies behind a speed says nothing there
pub find-behind : (a b : Row) (rows : List Row) (k : ℕ) → b.kmh < k → curve_value (a ∷ b ∷ rows) k ≡ curve_value (b ∷ rows) k
find-behind a b rows k h =
    let far : nat_le k b.kmh ≡ false = grind (arith, nat_tests, h) in
    rw (far, and-false (nat_le a.kmh k)) refl

-- between the first two rows
pub find-here : (a b : Row) (rows : List Row) (k : ℕ) → a.kmh ≤ k → k ≤ b.kmh → curve_value (a ∷ b ∷ rows) k ≡ value_on (a, b) k
find-here a b rows k h g =
    let past : nat_le a.kmh k ≡ true = grind (arith, nat_tests, h) in
    let near : nat_le k b.kmh ≡ true = grind (arith, nat_tests, g) in
    rw (past, near) refl

-- what is left of rows from a place on, where another row follows
drop-two : (rows : List Row) (i : ℕ) → i + 1 < length rows → drop i rows ≡ get_or rows i no_row ∷ get_or rows (i + 1) no_row ∷ drop (i + 1 + 1) rows
drop-two rows i h = drop_more rows i no_row (omega arith) ∙ ap (λ (q : List Row). get_or rows i no_row ∷ q) (drop_more rows (i + 1) no_row h)

pub IsPassed-next : (rows : List Row) (place kmh : ℕ) → IsPassed rows place kmh → place + 2 < length rows → (get_or rows (place + 1) no_row).kmh < kmh → IsPassed rows (place + 1) kmh
IsPassed-next rows place kmh p more behind = record {
  on_curve = omega arith;
  passed = rw (speeds-at rows (place + 1) (omega arith)) (omega arith);
  same = λ k h.
      let rest = find-behind (get_or rows place no_row) (get_or rows (place + 1) no_row) (drop (place + 1 + 1) rows) k (omega arith) in
      let here = ap (λ (q : List Row). curve_value q k) (drop-two rows place (omega arith)) in
      let next = ap (λ (q : List Row). curve_value q k) (drop_more rows (place + 1) no_row (omega arith)) in
      next ∙ sym rest ∙ sym here ∙ p.same k h;
}

pub IsPassed-later : (rows : List Row) (place kmh later : ℕ) → IsPassed rows place kmh → kmh ≤ later → IsPassed rows place later
IsPassed-later rows place kmh later p h = record { on_curve = p.on_curve; passed = omega (arith, p.passed); same = λ k g. p.same k (omega arith) }

-- the value at a speed before the row that follows the place
pub curve_value-passed : (rows : List Row) (place kmh : ℕ) → IsPassed rows place kmh → kmh ≤ get_or (speeds rows) (place + 1) 0
    → curve_value rows kmh ≡ value_on (get_or rows place no_row, get_or rows (place + 1) no_row) kmh
curve_value-passed rows place kmh p near =
    let a = get_or rows place no_row in
    let b = get_or rows (place + 1) no_row in
    let passed = rw (speeds-at rows place (omega (arith, p.on_curve))) at p.passed in
    let near' = rw (speeds-at rows (place + 1) p.on_curve) at near in
    sym (p.same kmh (omega arith)) ∙ ap (λ (q : List Row). curve_value q kmh) (drop-two rows place p.on_curve) ∙ find-here a b (drop (place + 1 + 1) rows) kmh passed near'

-- the speed of the last row
pub last-slow : (rows : List Row) → IsCurve rows → get_or (speeds rows) (length rows - 1) 0 ≤ 500
last-slow rows c =
    let n = length rows - 1 in
    let some = c.some in
    rw (speeds-at rows n (omega arith)) (c.ranges n no_row (omega arith)).slow

-- the value on the way from one row to the next, as the code adds it up
pub value_on-sum : (a b : Row) (kmh : ℕ) (x y z p : ℤ) → IsRow a → IsRow b → a.kmh ≤ kmh → kmh ≤ b.kmh → a.kmh < b.kmh → x ≡ pos b.value → y ≡ pos a.value → z ≡ pos a.value
    → p ≡ floor_div (to_z w64 (of_z w64 (to_z w64 (of_z w64 x) -ℤ to_z w64 (of_z w64 y))) *ℤ pos (kmh - a.kmh)) (b.kmh - a.kmh)
    → to_z w64 (of_z w64 (to_z w64 (of_z w64 z) +ℤ to_z w64 (of_z w64 p))) ≡ value_on (a, b) kmh
value_on-sum a b kmh x y z p ra rb from to rises ex ey ez ep =
    let low = pos a.value in
    let high = pos b.value in
    let a_small = ra.small in
    let b_small = rb.small in
    let rise : to_z w64 (of_z w64 (to_z w64 (of_z w64 x) -ℤ to_z w64 (of_z w64 y))) ≡ high -ℤ low = omega (arith, ints) in
    let part = rw rise at ep in
    let most = value_between-most low high (pos 3000000) (kmh - a.kmh) (b.kmh - a.kmh) (omega arith) (omega arith) (omega (arith, ints)) (omega (arith, ints)) in
    let least = value_between-least low high (pos 0) (kmh - a.kmh) (b.kmh - a.kmh) (omega arith) (omega arith) (omega (arith, ints)) (omega (arith, ints)) in
    omega (arith, ints)
