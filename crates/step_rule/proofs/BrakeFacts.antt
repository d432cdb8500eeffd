-- Where full brakes end a cell, and from where they end it at some squared speed.
use Rattle.std.proofs.Common.{◌≡◌, ℕ, ◌+◌, ◌-◌, ◌*◌, ◌/◌, ◌<◌, ◌≤◌, ℤ, pos, ◌≤ℤ◌, ◌<ℤ◌, ◌+ℤ◌, ◌-ℤ◌, ◌*ℤ◌, List, arith, ap, mul-le-mul, mul-le-mul_right, mod-lt, div-add-mod', unsigned_abs, inl, inr, refl, subst, sym}
use Rattle.std.proofs.lemmas.Int.{ints, by_lt_z}
use Rattle.std.proofs.lemmas.Bool.{cases_lt}
use borrow.Author.Differences.{up, down, product_is}
use Rattle.unit_rules.specs.Quotients.{floor_div}
use Rattle.unit_rules.proofs.FloorFacts.{floor_div-at_most, floor_div-floor, floor_div-product}
use Rattle.run_rules.specs.Grids.{row, top_of, band_width}
use Rattle.run_rules.specs.Speeds.{squared}
use Rattle.run_rules.specs.StepRules.{fall_from}
use Rattle.run_rules.proofs.GridFacts.{value_at-band, value_at-least, value_at-squared}
use Rattle.run_rules.proofs.SpeedFacts.{band_width-some, squared-mono, squared-next}
use Rattle.step_rule.specs.Motion.{IsMotion, Motion, kmh_of, most_of, step_rule_of}
use Rattle.step_rule.specs.Spans.{IsBrakedFrom}
use Rattle.step_rule.proofs.MonotoneFacts.{low_from-le_fall}

-- a quotient of what is less than j widths by `rise` for each of j
product-least : (z : ℤ) (width rise j gap : ℕ) → z +ℤ pos rise ≡ pos width → j * rise ≤ gap * width → (pos j *ℤ pos width) ≤ℤ (z *ℤ pos j +ℤ pos (gap * width))
product-least z width rise j gap e l =
    let p = product_is z (pos j) in
    let whole : up z + rise ≡ width + down z = omega (arith, ints) in
    let scaled = ap (λ n. n * j) whole in
    omega (arith, ints)

quotient-least : (z : ℤ) (width rise j gap : ℕ) → 0 < width → z +ℤ pos rise ≡ pos width → j * rise ≤ gap * width → pos j ≤ℤ (floor_div (z *ℤ pos j) width +ℤ pos gap)
quotient-least z width rise j gap s e l =
    let f = floor_div-at_most (pos j *ℤ pos width) (z *ℤ pos j) width gap s (product-least z width rise j gap e l) in
    let q = floor_div-product (pos j) width s in
    rw q at f

quotient-past : (z q : ℤ) (width rise j gap : ℕ) → z +ℤ pos rise ≡ pos width → gap * width < j * rise → (q *ℤ pos width) ≤ℤ (z *ℤ pos j) → pos j ≤ℤ (q +ℤ pos gap) → ⊥
quotient-past z q width rise j gap e l m h =
    let p = product_is z (pos j) in
    let r = product_is q (pos width) in
    let whole : up z + rise ≡ width + down z = omega (arith, ints) in
    let scaled = ap (λ n. n * j) whole in
    let t = (up q + gap) - (down q + j) in
    let apart : up q + gap ≡ down q + j + t = omega (arith, ints) in
    let wide = ap (λ n. n * width) apart in
    omega (arith, ints)

quotient-most : (z : ℤ) (width rise j gap : ℕ) → 0 < width → z +ℤ pos rise ≡ pos width → gap * width < j * rise → (floor_div (z *ℤ pos j) width +ℤ pos gap) <ℤ pos j
quotient-most z width rise j gap s e l =
    by_lt_z (floor_div (z *ℤ pos j) width +ℤ pos gap) (pos j)
    (λ lt. lt)
    (λ le. absurd (quotient-past z (floor_div (z *ℤ pos j) width) width rise j gap e l (floor_div-floor (z *ℤ pos j) width s).at_most le))

pub fall_from-squared : (brake : List ℤ) (k : ℕ) → fall_from brake (squared k) ≡ pos (squared k) -ℤ row brake k
unfolding fall_from
fall_from-squared brake k = ap (λ v. pos (squared k) -ℤ v) (value_at-squared brake k)

band_width-is : (k : ℕ) → band_width k ≡ 10000 * (2 * k + 1)
unfolding band_width
band_width-is k = refl

-- brakes that slow by at least so much at each whole km/h do so at every squared speed
pub fall_from-slowed : (brake : List ℤ) (least : ℤ) (u : ℕ) → u ≤ squared (top_of brake) → ((k : ℕ) → k ≤ top_of brake → least ≤ℤ row brake k) → fall_from brake u ≤ℤ (pos u -ℤ least)
unfolding fall_from
fall_from-slowed brake least u h each = let slows = value_at-least brake least u h each in omega (arith, ints)

-- brakes always slow
pub fall_from-le : (motion : Motion) → IsMotion motion → (u : ℕ) → u ≤ most_of motion → fall_from motion.brake.rows u ≤ℤ pos u
fall_from-le motion m u h =
    let slows = fall_from-slowed motion.brake.rows (pos 12960) u (subst (λ k. u ≤ squared k) (sym m.tops) h) m.brakes in
    omega (arith, ints)

pub fall_from-below : (motion : Motion) (k w : ℕ) → IsMotion motion → k ≤ kmh_of motion → squared k ≤ w → fall_from motion.brake.rows (squared k) ≤ℤ pos w
fall_from-below motion k w m h s = let falls = fall_from-le motion m (squared k) (squared-mono k (kmh_of motion) h) in omega (arith, ints)

-- a root rounded down, or less, has no greater square
pub squared-root : (w root k : ℕ) → root * root ≤ w / 10000 → k ≤ root → squared k ≤ w
unfolding squared
squared-root w root k h l = let p : k * k ≤ root * root = mul-le-mul l l in omega arith

-- inside a band, j squared speeds above its first
record LiesIn (brake : List ℤ) (k gap rise w : ℕ) : Type 0 where
  here : (fall_from brake (squared k) +ℤ pos gap) ≡ pos w
  next : (fall_from brake (squared k) +ℤ pos rise) ≡ fall_from brake (squared (k + 1))

rows-apart : (brake : List ℤ) (k gap rise w : ℕ) → LiesIn brake k gap rise w → ((row brake (k + 1) -ℤ row brake k) +ℤ pos rise) ≡ pos (band_width k)
rows-apart brake k gap rise w b =
    let first = fall_from-squared brake k in
    let last = fall_from-squared brake (k + 1) in
    let step = squared-next k in
    let next = b.next in
    omega (arith, ints)

fall_from-most : (brake : List ℤ) (k gap rise w j : ℕ) → LiesIn brake k gap rise w → j ≤ band_width k → j * rise ≤ gap * band_width k → fall_from brake (squared k + j) ≤ℤ pos w
unfolding fall_from
fall_from-most brake k gap rise w j b h l =
    let q = quotient-least (row brake (k + 1) -ℤ row brake k) (band_width k) rise j gap (band_width-some k) (rows-apart brake k gap rise w b) l in
    let v = value_at-band brake k j h in
    let first = fall_from-squared brake k in
    let here = b.here in
    omega (arith, ints)

fall_from-past : (brake : List ℤ) (k gap rise w j : ℕ) → LiesIn brake k gap rise w → j ≤ band_width k → gap * band_width k < j * rise → pos w <ℤ fall_from brake (squared k + j)
unfolding fall_from
fall_from-past brake k gap rise w j b h l =
    let q = quotient-most (row brake (k + 1) -ℤ row brake k) (band_width k) rise j gap (band_width-some k) (rows-apart brake k gap rise w b) l in
    let v = value_at-band brake k j h in
    let first = fall_from-squared brake k in
    let here = b.here in
    omega (arith, ints)

-- how many of `all` equal parts of a rise are at most a gap
parts-some : (gap rise all part : ℕ) → 0 < rise → part ≡ gap * all / rise → (part * rise ≤ gap * all) × (gap * all < (part + 1) * rise)
parts-some gap rise all part h e =
    let whole = div-add-mod' (gap * all) rise in
    let small = mod-lt (gap * all) h in
    rw e (omega arith, omega arith)

parts-few : (gap rise all part : ℕ) → gap < rise → 0 < all → part * rise ≤ gap * all → part < all
parts-few gap rise all part h s l =
    elim (cases_lt part all) [
      | inl lt ↦ lt
      | inr le ↦
          let less : all * rise ≤ part * rise = mul-le-mul_right rise le in
          let more : (gap + 1) * all ≤ rise * all = mul-le-mul_right all (omega arith) in
          absurd (omega arith)
    ]

-- the gap from where full brakes end a band's first squared speed to w, and the rise to where they end the next band's
pub record LiesBetween (motion : Motion) (k w gap rise : ℕ) (here next : ℤ) : Type 0 where
  pub below_top : k < kmh_of motion
  pub first : here ≡ fall_from motion.brake.rows (squared k)
  pub last : next ≡ fall_from motion.brake.rows (squared (k + 1))
  pub braked : here ≤ℤ pos w
  pub past : pos w <ℤ next
  pub gap_is : gap ≡ unsigned_abs (pos w -ℤ here)
  pub rise_is : rise ≡ unsigned_abs (next -ℤ here)

pub gap-below : (motion : Motion) (k w gap rise : ℕ) (here next : ℤ) → LiesBetween motion k w gap rise here next → gap < rise
gap-below motion k w gap rise here next b = let g = b.gap_is in let r = b.rise_is in let l = b.braked in let p = b.past in omega (arith, ints)

LiesBetween-in : (motion : Motion) (k w gap rise : ℕ) (here next : ℤ) → LiesBetween motion k w gap rise here next → LiesIn motion.brake.rows k gap rise w
LiesBetween-in motion k w gap rise here next b =
    let g = b.gap_is in
    let r = b.rise_is in
    let l = b.braked in
    let p = b.past in
    let first = b.first in
    let last = b.last in
    record { here = omega (arith, ints); next = omega (arith, ints) }

pub IsBrakedFrom-part : (motion : Motion) (k w gap rise part : ℕ) (here next : ℤ) → LiesBetween motion k w gap rise here next → part ≡ gap * (10000 * (2 * k + 1)) / rise → IsBrakedFrom motion w (squared k + part)
IsBrakedFrom-part motion k w gap rise part here next b e =
    let brake = motion.brake.rows in
    let inside = LiesBetween-in motion k w gap rise here next b in
    let below = gap-below motion k w gap rise here next b in
    let wide : part ≡ gap * band_width k / rise = rw (band_width-is k) e in
    let some = parts-some gap rise (band_width k) part (omega arith) wide in
    let few = parts-few gap rise (band_width k) part below (band_width-some k) some.0 in
    let after : squared k + (part + 1) ≡ squared k + part + 1 = omega arith in
    let top = squared-mono (k + 1) (kmh_of motion) (omega (arith, b.below_top)) in
    record {
      in_range = omega (arith, squared-next k);
      braked = fall_from-most brake k gap rise w part inside (omega arith) some.0;
      too_fast = λ _. rw after at (fall_from-past brake k gap rise w (part + 1) inside (omega arith) some.1);
    }

-- brakes always slow, so no train has to end a cell faster than it began it
pub low-le : (motion : Motion) → IsMotion motion → (cell u : ℕ) → u ≤ most_of motion → (step_rule_of motion).low cell u ≤ℤ pos u
low-le motion m cell u h =
    let falls = fall_from-le motion m u h in
    let low = low_from-le_fall motion.push.rows motion.brake.rows motion.moved (row motion.pulls cell) u in
    omega (arith, ints)
