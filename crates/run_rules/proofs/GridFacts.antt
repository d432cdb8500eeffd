-- Where a squared speed lies on a grid, and the value there.
use Rattle.std.proofs.Common.{◌≡◌, ℕ, ◌+◌, ◌-◌, ◌*◌, ◌/◌, ◌<◌, ◌≤◌, ℤ, ◌≤ℤ◌, ◌-ℤ◌, List, arith, refl, ap, sym, ◌∙◌, inl, inr}
use Rattle.std.proofs.lemmas.Int.{ints}
use Rattle.std.proofs.lemmas.Bool.{cases_lt}
use borrow.Author.Differences.{up, down}
use lib.IntN.{*ℤ-zero}
use Rattle.unit_rules.specs.Quotients.{floor_div}
use Rattle.unit_rules.proofs.FloorFacts.{floor_div-part_least, floor_div-part_most, floor_div-product, floor_div-zero}
use Rattle.unit_rules.proofs.RootFacts.{IsRootFloor-same, root_floor-is}
use Rattle.run_rules.specs.Grids.{row, top_of, band_width, whole_kmh, value_between, value_at}
use Rattle.run_rules.specs.Speeds.{squared}
use Rattle.run_rules.proofs.SpeedFacts.{squared-next, squared-zero, squared-mono, band_width-some}

-- the whole km/h of a squared speed within a band
pub whole_kmh-within : (k part : ℕ) → part < band_width k → whole_kmh (squared k + part) ≡ k
unfolding whole_kmh squared band_width
whole_kmh-within k part h = IsRootFloor-same ((10000 * (k * k) + part) / 10000) _ k (root_floor-is _) (record { square_le = omega arith; next_square_gt = omega arith })

-- every squared speed lies in the band of its whole km/h
pub whole_kmh-band : (u : ℕ) → (squared (whole_kmh u) ≤ u) × (u < squared (whole_kmh u) + band_width (whole_kmh u))
unfolding whole_kmh squared band_width
whole_kmh-band u = let r = root_floor-is (u / 10000) in let le = r.square_le in let lt = r.next_square_gt in (omega arith, omega arith)

-- none of a band's squared speeds up to the top speed's is past the top speed
pub kmh-at_most : (k top part : ℕ) → squared k + part ≤ squared top → k ≤ top
kmh-at_most k top part h =
    elim (cases_lt top k) [
      | inl l ↦ let m = squared-mono (top + 1) k (omega arith) in let e = squared-next top in let w = band_width-some top in absurd (omega arith)
      | inr g ↦ g
    ]

-- and inside a band the top speed is further on
pub kmh-below : (k top part : ℕ) → squared k + part ≤ squared top → 0 < part → k < top
kmh-below k top part h p =
    elim (cases_lt k top) [
      | inl l ↦ l
      | inr g ↦ let m = squared-mono top k g in absurd (omega arith)
    ]

pub value_between-none : (low high : ℤ) (all : ℕ) → value_between low high 0 all ≡ low
value_between-none low high all = let e = *ℤ-zero (high -ℤ low) in let z = ap (λ a. floor_div a all) e ∙ floor_div-zero all in omega (arith, ints)

pub value_between-all : (low high : ℤ) (all : ℕ) → 0 < all → value_between low high all all ≡ high
value_between-all low high all h = let e = floor_div-product (high -ℤ low) all h in omega (arith, ints)

value_at-within : (rows : List ℤ) (k part : ℕ) → part < band_width k → value_at rows (squared k + part) ≡ value_between (row rows k) (row rows (k + 1)) part (band_width k)
unfolding value_at
value_at-within rows k part h = rw (whole_kmh-within k part h) (ap (λ n. value_between (row rows k) (row rows (k + 1)) n (band_width k)) (omega arith))

-- the value in a band, also at its end, where the next begins
pub value_at-band : (rows : List ℤ) (k part : ℕ) → part ≤ band_width k → value_at rows (squared k + part) ≡ value_between (row rows k) (row rows (k + 1)) part (band_width k)
value_at-band rows k part h =
    elim (cases_lt part (band_width k)) [
      | inl l ↦ value_at-within rows k part l
      | inr g ↦
          let e : squared k + band_width k ≡ squared (k + 1) + 0 = omega (arith, squared-next k) in
          let s : part ≡ band_width k = omega arith in
          rw s (ap (value_at rows) e ∙ value_at-within rows (k + 1) 0 (band_width-some (k + 1)) ∙ value_between-none _ _ _ ∙ sym (value_between-all (row rows k) (row rows (k + 1)) (band_width k) (band_width-some k)))
    ]

-- the value at a squared speed whose band is known
pub value_at-placed : (rows : List ℤ) (u k part all : ℕ) → u ≡ squared k + part → part < all → all ≡ band_width k → value_at rows u ≡ value_between (row rows k) (row rows (k + 1)) part all
value_at-placed rows u k part all e h s = rw (e, s) (value_at-band rows k part (omega arith))

-- the value at a whole km/h
pub value_at-row : (rows : List ℤ) (u k part all : ℕ) → u ≡ squared k + part → part < all → all ≡ band_width k → part ≡ 0 → value_at rows u ≡ row rows k
value_at-row rows u k part all e h s z = value_at-placed rows u k part all e h s ∙ rw z (value_between-none (row rows k) (row rows (k + 1)) all)

pub value_at-squared : (rows : List ℤ) (k : ℕ) → value_at rows (squared k) ≡ row rows k
value_at-squared rows k = value_at-row rows (squared k) k 0 (band_width k) (omega arith) (band_width-some k) refl refl

pub value_at-zero : (rows : List ℤ) → value_at rows 0 ≡ row rows 0
value_at-zero rows = ap (value_at rows) (sym squared-zero) ∙ value_at-squared rows 0

-- the value on the way from one to the other is no greater than both, and no less
pub value_between-most : (low high m : ℤ) (part all : ℕ) → part ≤ all → 0 < all → low ≤ℤ m → high ≤ℤ m → value_between low high part all ≤ℤ m
value_between-most low high m part all h s l g =
    let n = (up m + down low) - (down m + up low) in
    let f = floor_div-part_most (high -ℤ low) part all n h s (omega (arith, ints)) in
    omega (arith, ints)

pub value_between-least : (low high m : ℤ) (part all : ℕ) → part ≤ all → 0 < all → m ≤ℤ low → m ≤ℤ high → m ≤ℤ value_between low high part all
value_between-least low high m part all h s l g =
    let n = (up low + down m) - (down low + up m) in
    let f = floor_div-part_least (high -ℤ low) part all n h s (omega (arith, ints)) in
    omega (arith, ints)

pub value_at-least : (rows : List ℤ) (m : ℤ) (u : ℕ) → u ≤ squared (top_of rows) → ((k : ℕ) → k ≤ top_of rows → m ≤ℤ row rows k) → m ≤ℤ value_at rows u
value_at-least rows m u l h =
    let b = whole_kmh-band u in
    let k = whole_kmh u in
    let part = u - squared k in
    let e : u ≡ squared k + part = omega arith in
    let here = h k (kmh-at_most k (top_of rows) part (omega arith)) in
    elim (cases_lt 0 part) [
      | inl p ↦
          let next = h (k + 1) (omega (arith, kmh-below k (top_of rows) part (omega arith) p)) in
          rw (value_at-placed rows u k part (band_width k) e (omega arith) refl) (value_between-least (row rows k) (row rows (k + 1)) m part (band_width k) (omega arith) (band_width-some k) here next)
      | inr z ↦ rw (value_at-row rows u k part (band_width k) e (omega arith) refl (omega arith)) here
    ]
