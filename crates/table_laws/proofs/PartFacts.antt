-- A part of a rise, in 64 and in 128 bits.
use Rattle.std.proofs.Common.{◌≡◌, ℕ, ◌*◌, ◌<◌, ◌≤◌, ◌^◌, ℤ, pos, neg_ℤ, ◌≤ℤ◌, ◌+ℤ◌, ◌-ℤ◌, ◌*ℤ◌, arith, refl, SFits, to_z, of_z, w64, lit<, unsigned_abs}
use mir.Syntax.{w128}
use Rattle.std.proofs.lemmas.Int.{ints, to_z-of_z, fits_signed_mul}
use Rattle.unit_rules.specs.Quotients.{floor_div}
use Rattle.run_rules.specs.Grids.{band_width, value_between}
use Rattle.run_rules.proofs.GridFacts.{value_between-most, value_between-least}

abs_most : (z : ℤ) (m : ℕ) → z ≤ℤ pos m → neg_ℤ (pos m) ≤ℤ z → unsigned_abs z ≤ m
abs_most z m h l = omega (arith, ints)

pub large_product-fits : (z : ℤ) (part : ℕ) → z ≤ℤ pos (2 * 10 ^ 15) → neg_ℤ (pos (2 * 10 ^ 15)) ≤ℤ z → part ≤ 10010000 → SFits w128 (z *ℤ pos part)
large_product-fits z part h l p =
    let abs_part : unsigned_abs (pos part) ≤ 10010000 = omega (arith, ints) in
    fits_signed_mul w128 z (pos part) (2 * 10 ^ 15) 10010000 (abs_most z (2 * 10 ^ 15) h l) abs_part (lit< tt)

-- a part of the rise from low to high, on top of low
pub record IsOnTheWay (low high step : ℤ) (part all : ℕ) : Type 0 where
  pub same : low +ℤ step ≡ value_between low high part all
  pub most : (low +ℤ step) ≤ℤ pos (10 ^ 15)
  pub least : neg_ℤ (pos (10 ^ 15)) ≤ℤ (low +ℤ step)

pub part-on_the_way : (low high step : ℤ) (part all : ℕ) → low ≤ℤ pos (10 ^ 15) → neg_ℤ (pos (10 ^ 15)) ≤ℤ low → high ≤ℤ pos (10 ^ 15) → neg_ℤ (pos (10 ^ 15)) ≤ℤ high
    → part ≤ all → 0 < all → step ≡ floor_div ((high -ℤ low) *ℤ pos part) all → IsOnTheWay low high step part all
part-on_the_way low high step part all lm ll hm hl i s e =
    let most = value_between-most low high (pos (10 ^ 15)) part all i s lm hm in
    let least = value_between-least low high (neg_ℤ (pos (10 ^ 15))) part all i s ll hl in
    rw e (record { same = refl; most = most; least = least })

pub band_width-most : (k : ℕ) → k ≤ 500 → band_width k ≤ 10010000
unfolding band_width
band_width-most k h = omega arith

-- what the quotient in 128 bits is
pub large_part-is : (z q a b d : ℤ) (part all : ℕ) → SFits w64 z → z ≤ℤ pos (2 * 10 ^ 15) → neg_ℤ (pos (2 * 10 ^ 15)) ≤ℤ z → part ≤ 10010000 → all ≤ 10010000
    → a ≡ to_z w64 (of_z w64 z) → b ≡ pos part → d ≡ pos all
    → q ≡ floor_div (to_z w128 (of_z w128 (to_z w128 (of_z w128 a) *ℤ to_z w128 (of_z w128 b)))) (unsigned_abs (to_z w128 (of_z w128 d)))
    → q ≡ floor_div (z *ℤ pos part) all
large_part-is z q a b d part all f m l p w rise parts width e =
    let is : a ≡ z = simp to_z-of_z at rise in
    let z_fits : SFits w128 z = omega (arith, ints) in
    let part_fits : SFits w128 (pos part) = omega (arith, ints) in
    let all_fits : SFits w128 (pos all) = omega (arith, ints) in
    let fits = large_product-fits z part m l p in
    let g = rw (is, parts, width) at e in
    simp to_z-of_z at g
