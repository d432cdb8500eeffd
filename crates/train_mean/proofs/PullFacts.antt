-- The pull of a sum of gradients, by its size.
use Rattle.std.proofs.Common.{◌≡◌, ◌≤◌, ◌*◌, ◌/◌, ◌^◌, ℕ, zero, suc, ℤ, pos, negsuc, neg_ℤ, ◌*ℤ◌, ◌-ℤ◌, ◌≤ℤ◌, ◌<ℤ◌, unsigned_abs, to_z, of_z, refl, arith, mul-le-mul}
use Rattle.std.specs.Int.{div_ceil, w64}
use Rattle.std.proofs.Math.Nat.{div-le_of_le-mul}
use Rattle.std.proofs.lemmas.Int.{ints}
use Rattle.unit_rules.proofs.FloorFacts.{ceil_div-pos, neg_ℤ-neg_ℤ}
use Rattle.run_rules.specs.StepRules.{IsPull}
use Rattle.train_mean.specs.Gradients.{pull_of}

-- a product with what is below 0, turned round
product-turned : (n c : ℕ) → neg_ℤ (neg_ℤ (pos n) *ℤ pos c) ≡ pos (n * c)
product-turned zero c = let none : 0 * c ≡ 0 = omega arith in rw none refl
product-turned (suc n) c = neg_ℤ-neg_ℤ (suc n * c)

pub pull_of-pos : (mass train k : ℕ) → 1 ≤ train → pull_of mass train (pos k) ≡ pos (div_ceil (mass * k * 158922) (625 * train))
pull_of-pos mass train k h = ceil_div-pos (mass * k * 158922) (625 * train) (omega arith)

pub pull_of-neg : (mass train k : ℕ) → pull_of mass train (negsuc k) ≡ neg_ℤ (pos (mass * suc k * 158922 / (625 * train)))
pull_of-neg mass train k = let p = product-turned (mass * suc k) 158922 in rw p refl

-- a mass of at most 20,000 t under a mean gradient of at most 100 per mille
pub size_le : (mass train k : ℕ) → mass ≤ 20000000 → k ≤ 1000 * train → mass * k * 158922 ≤ 625 * train * 6000000000000
size_le mass train k m h = let p = mul-le-mul m h in omega (arith, p)

quotient_le : (mass train k : ℕ) → mass ≤ 20000000 → k ≤ 1000 * train → mass * k * 158922 / (625 * train) ≤ 6000000000000
quotient_le mass train k m h = div-le_of_le-mul (625 * train) (size_le mass train k m h)

-- a sum of gradients under the train is of at most 1000 tenths a metre
pub record IsMean (train : ℕ) (sum : ℤ) : Type 0 where
  pub least : neg_ℤ (pos (1000 * train)) ≤ℤ sum
  pub most : sum ≤ℤ pos (1000 * train)

-- the pull of a sum below 0, as the code makes it
pub pull-below : (mass train : ℕ) (sum : ℤ) (size : ℕ) → mass ≤ 20000000 → IsMean train sum → sum <ℤ pos 0 → size ≡ unsigned_abs sum
    → to_z w64 (of_z w64 (pos 0 -ℤ to_z w64 (mass * size * 158922 / (625 * train)))) ≡ pull_of mass train sum
pull-below mass train (pos k) size m s l e = absurd (omega (arith, ints))
pull-below mass train (negsuc k) size m s l e =
    let least = s.least in
    let small = quotient_le mass train (suc k) m (omega (arith, ints, least)) in
    let value = pull_of-neg mass train k in
    rw (e, value) (omega (arith, ints, small))

-- a whole number of that size as a signed one
whole_is : (n : ℕ) → n ≤ 10 ^ 13 → to_z w64 n ≡ pos n
whole_is n h = omega (arith, ints)

-- the pull of a sum from 0 on
pub pull-above : (mass train : ℕ) (sum : ℤ) (size : ℕ) → mass ≤ 20000000 → 1 ≤ train → IsMean train sum → pos 0 ≤ℤ sum → size ≡ unsigned_abs sum
    → div_ceil (mass * size * 158922) (625 * train) ≤ 10 ^ 13
pull-above mass train (pos k) size m t s l e =
    let most = s.most in
    let small = quotient_le mass train k m (omega (arith, ints, most)) in
    rw e (omega (arith, small))
pull-above mass train (negsuc k) size m t s l e = absurd (omega (arith, ints))

pub pull-above_is : (mass train : ℕ) (sum : ℤ) (size : ℕ) → mass ≤ 20000000 → 1 ≤ train → IsMean train sum → pos 0 ≤ℤ sum → size ≡ unsigned_abs sum
    → to_z w64 (div_ceil (mass * size * 158922) (625 * train)) ≡ pull_of mass train sum
pull-above_is mass train (pos k) size m t s l e =
    let small = pull-above mass train (pos k) size m t s l e in
    let value = pull_of-pos mass train k t in
    let same : size ≡ k = e in
    let fits : div_ceil (mass * k * 158922) (625 * train) ≤ 10 ^ 13 = rw same at small in
    rw (value, same) (whole_is (div_ceil (mass * k * 158922) (625 * train)) fits)
pull-above_is mass train (negsuc k) size m t s l e = absurd (omega (arith, ints))

-- no pull is above 10^13 either way
pub IsPull-pull_of : (mass train : ℕ) (sum : ℤ) → mass ≤ 20000000 → 1 ≤ train → IsMean train sum → IsPull (pull_of mass train sum)
IsPull-pull_of mass train (pos k) m t s =
    let most = s.most in
    let small = quotient_le mass train k m (omega (arith, ints, most)) in
    rw (pull_of-pos mass train k t) (record { least = omega (arith, ints); most = omega (arith, ints, small) })
IsPull-pull_of mass train (negsuc k) m t s =
    let least = s.least in
    let small = quotient_le mass train (suc k) m (omega (arith, ints, least)) in
    rw (pull_of-neg mass train k) (record { least = omega (arith, ints, small); most = omega (arith, ints, small) })
