-- How quotients rounded down compare.
use Rattle.std.proofs.Common.{◌≡◌, ℕ, zero, suc, min, ◌+◌, ◌-◌, ◌*◌, ◌%◌, ◌<◌, ◌≤◌, ℤ, pos, negsuc, ◌≤ℤ◌, ◌<ℤ◌, ◌+ℤ◌, ◌-ℤ◌, ◌*ℤ◌, arith, refl, ap, mod-lt, div-add-mod', div-le_self, neg_ℤ, SFits, ◌∙◌, ◌^◌, mul-le-mul}
use Rattle.std.specs.Int.{div_ceil, int_div_euclid}
use mir.Syntax.{w128}
use Rattle.std.proofs.Math.Nat.{zero-div}
use Rattle.std.proofs.lemmas.Int.{ints, by_lt_z}
use borrow.Author.Differences.{up, down, product_is}
use Rattle.unit_rules.specs.Quotients.{floor_div, ceil_div, IsFloorOf, IsCeilingOf}

-- what is left of a by the quotient q
pub record LeavesRest (a : ℤ) (d : ℕ) (q : ℤ) (rest : ℕ) : Type 0 where
  pub small : rest < d
  pub whole : up a + down q * d ≡ up q * d + down a + rest

pub floor_rest : (a : ℤ) (d : ℕ) → 0 < d → (rest : ℕ) × LeavesRest a d (floor_div a d) rest
floor_rest (pos a) d h = (a % d, record { small = mod-lt a h; whole = omega (arith, div-add-mod' a d) })
floor_rest (negsuc a) d h = (d - 1 - a % d, record { small = omega arith; whole = let e = div-add-mod' a d in let s = mod-lt a h in omega arith })

-- in naturals, where the quotient p is more than m above q
apart : (ua da ub db up' dp uq dq d m r s t : ℕ) → up' + dq ≡ uq + dp + m + 1 + t → ua + db ≤ ub + da + m * d → ua + dp * d ≡ up' * d + da + r → ub + dq * d ≡ uq * d + db + s → s < d → ⊥
apart ua da ub db up' dp uq dq d m r s t e l f g h =
    let scaled = ap (λ n. n * d) e in omega arith

floor_compare : (a b p q : ℤ) (d m r s : ℕ) → a ≤ℤ (b +ℤ pos (m * d)) → LeavesRest a d p r → LeavesRest b d q s → p ≤ℤ (q +ℤ pos m)
floor_compare a b p q d m r s l f g =
    by_lt_z (q +ℤ pos m) p
    (λ lt.
    let t = (up p + down q) - (up q + down p + m + 1) in
    let e : up p + down q ≡ up q + down p + m + 1 + t = omega (arith, ints) in
    let l' : up a + down b ≤ up b + down a + m * d = omega (arith, ints) in
    absurd (apart (up a) (down a) (up b) (down b) (up p) (down p) (up q) (down q) d m r s t e l' f.whole g.whole g.small))
    (λ le. le)

-- a is at most m divisors above b
pub floor_div-at_most : (a b : ℤ) (d m : ℕ) → 0 < d → a ≤ℤ (b +ℤ pos (m * d)) → floor_div a d ≤ℤ (floor_div b d +ℤ pos m)
floor_div-at_most a b d m h l =
    let fa = floor_rest a d h in
    let fb = floor_rest b d h in
    floor_compare a b (floor_div a d) (floor_div b d) d m fa.0 fb.0 l fa.1 fb.1

-- a greater number has no smaller quotient
pub floor_div-mono : (a b : ℤ) (d : ℕ) → 0 < d → a ≤ℤ b → floor_div a d ≤ℤ floor_div b d
floor_div-mono a b d h l = let q = floor_div-at_most a b d 0 h (omega (arith, ints)) in omega (arith, ints)

-- a quotient and a rest below the divisor are the only ones
floor_unique : (a p q : ℤ) (d r s : ℕ) → LeavesRest a d p r → LeavesRest a d q s → p ≡ q
floor_unique a p q d r s f g =
    let up_to = floor_compare a a p q d 0 r s (omega (arith, ints)) f g in
    let down_to = floor_compare a a q p d 0 s r (omega (arith, ints)) g f in
    omega (arith, ints)

-- a multiple of the divisor leaves no rest
pub floor_div-product : (z : ℤ) (d : ℕ) → 0 < d → floor_div (z *ℤ pos d) d ≡ z
floor_div-product z d h =
    let f = floor_rest (z *ℤ pos d) d h in
    floor_unique (z *ℤ pos d) (floor_div (z *ℤ pos d) d) z d f.0 0 f.1 (record { small = h; whole = let p = product_is z (pos d) in omega arith })

pub floor_div-zero : (d : ℕ) → floor_div (pos 0) d ≡ pos 0
floor_div-zero d = ap pos (zero-div d)

-- a quotient is no larger than the number, either way
pub floor_div-most : (z : ℤ) (d m : ℕ) → z ≤ℤ pos m → floor_div z d ≤ℤ pos m
floor_div-most (pos n) d m h = let l = div-le_self n d in omega (arith, ints)
floor_div-most (negsuc n) d m h = omega (arith, ints)

pub floor_div-least : (z : ℤ) (d m : ℕ) → neg_ℤ (pos m) ≤ℤ z → neg_ℤ (pos m) ≤ℤ floor_div z d
floor_div-least (pos n) d m h = omega (arith, ints)
floor_div-least (negsuc n) d m h = let l = div-le_self n d in omega (arith, ints)

-- the quotient rounded down is the greatest number with at most that product
product_at_most : (a q : ℤ) (d r : ℕ) → LeavesRest a d q r → (q *ℤ pos d) ≤ℤ a
product_at_most a q d r f = let p = product_is q (pos d) in let w = f.whole in omega (arith, ints)

pub floor_div-floor : (a : ℤ) (d : ℕ) → 0 < d → IsFloorOf a (pos d) (floor_div a d)
floor_div-floor a d h =
    let f = floor_rest a d h in
    record {
      at_most = product_at_most a (floor_div a d) d f.0 f.1;
      greatest = λ z l. let e = floor_div-product z d h in let m = floor_div-mono (z *ℤ pos d) a d h l in rw e at m;
    }

pub int_div_euclid-floor : (a b : ℤ) → pos 0 <ℤ b → IsFloorOf a b (int_div_euclid a b)
int_div_euclid-floor a (pos d) h = floor_div-floor a d (omega (arith, ints))
int_div_euclid-floor a (negsuc d) h = absurd (omega (arith, ints))

neg_ℤ-sub : (a : ℤ) → pos 0 -ℤ a ≡ neg_ℤ a
neg_ℤ-sub a = omega (arith, ints)

-- the quotient of what is below 0 by as much, turned round, is the quotient rounded up
pub ceil_div-turned : (a q : ℤ) (d : ℕ) → q ≡ floor_div (pos 0 -ℤ a) d → pos 0 -ℤ q ≡ ceil_div a d
ceil_div-turned a q d e = neg_ℤ-sub q ∙ ap neg_ℤ (e ∙ ap (λ z. floor_div z d) (neg_ℤ-sub a))

product-turned : (q b : ℤ) → (pos 0 -ℤ q) *ℤ b ≡ pos 0 -ℤ (q *ℤ b)
product-turned q b =
    let p = pos 0 -ℤ q in
    let e : up p + up q ≡ down p + down q = omega (arith, ints) in
    let scaled_up = ap (λ n. n * up b) e in
    let scaled_down = ap (λ n. n * down b) e in
    let f = product_is p b in
    let g = product_is q b in
    omega (arith, ints)

pub IsCeilingOf-turned : (a b q : ℤ) → IsFloorOf (pos 0 -ℤ a) b q → IsCeilingOf a b (pos 0 -ℤ q)
IsCeilingOf-turned a b q f = record {
  at_least = let m = f.at_most in rw (product-turned q b) (omega (arith, ints));
  least = λ z l. let g = f.greatest (pos 0 -ℤ z) (rw (product-turned z b) (omega (arith, ints))) in omega (arith, ints);
}

-- the quotient of a number of 127 bits has no more
pub floor_div-fits : (a q : ℤ) (d : ℕ) → neg_ℤ (pos (2 ^ 126)) ≤ℤ a → a ≤ℤ pos (2 ^ 126) → q ≡ floor_div (pos 0 -ℤ a) d → SFits w128 (pos 0 -ℤ q)
floor_div-fits a q d l m e =
    let most = floor_div-most (pos 0 -ℤ a) d (2 ^ 126) (omega (arith, ints)) in
    let least = floor_div-least (pos 0 -ℤ a) d (2 ^ 126) (omega (arith, ints)) in
    omega (arith, ints)

-- a part of a number, no greater than the whole
times_most : (z : ℤ) (part all m : ℕ) → part ≤ all → z ≤ℤ pos m → (z *ℤ pos part) ≤ℤ (pos 0 +ℤ pos (m * all))
times_most (pos n) part all m h l = let p : n * part ≤ m * all = mul-le-mul (omega (arith, ints)) h in omega (arith, ints)
times_most (negsuc n) part all m h l = omega (arith, ints)

times_least : (z : ℤ) (part all m : ℕ) → part ≤ all → neg_ℤ (pos m) ≤ℤ z → pos 0 ≤ℤ (z *ℤ pos part +ℤ pos (m * all))
times_least (pos n) part all m h l = omega (arith, ints)
times_least (negsuc n) part all m h l = let p : suc n * part ≤ m * all = mul-le-mul (omega (arith, ints)) h in omega (arith, ints)

-- that many parts of all of a number lie between 0 and the number
pub floor_div-part_most : (z : ℤ) (part all m : ℕ) → part ≤ all → 0 < all → z ≤ℤ pos m → floor_div (z *ℤ pos part) all ≤ℤ pos m
floor_div-part_most z part all m h s l = let f = floor_div-at_most (z *ℤ pos part) (pos 0) all m s (times_most z part all m h l) in let e = floor_div-zero all in omega (arith, ints)

pub floor_div-part_least : (z : ℤ) (part all m : ℕ) → part ≤ all → 0 < all → neg_ℤ (pos m) ≤ℤ z → neg_ℤ (pos m) ≤ℤ floor_div (z *ℤ pos part) all
floor_div-part_least z part all m h s l = let f = floor_div-at_most (pos 0) (z *ℤ pos part) all m s (times_least z part all m h l) in let e = floor_div-zero all in omega (arith, ints)

-- a quotient with a rest below the divisor is the one rounded down
pub floor_div-rest : (a q : ℤ) (d rest : ℕ) → 0 < d → LeavesRest a d q rest → floor_div a d ≡ q
floor_div-rest a q d rest h f = let g = floor_rest a d h in floor_unique a (floor_div a d) q d g.0 rest g.1 f

-- what the quotient of whole numbers, rounded up, is too much
ceil_rest : (n d : ℕ) → 0 < d → (rest : ℕ) × (rest < d) × (div_ceil n d * d ≡ n + rest)
ceil_rest n d h = by (n % d) refl
  where
    by : (r : ℕ) → n % d ≡ r → (rest : ℕ) × (rest < d) × (div_ceil n d * d ≡ n + rest)
    by zero e = let whole = div-add-mod' n d in (0, h, rw e (omega (arith, whole, e)))
    by (suc k) e =
        let whole = div-add-mod' n d in
        let small = mod-lt n h in
        let one : min 1 (suc k) ≡ 1 = omega arith in
        (d - suc k, omega (arith, small, e), rw (e, one) (omega (arith, whole, e, small)))

up-neg_ℤ : (n : ℕ) → up (neg_ℤ (pos n)) ≡ 0
up-neg_ℤ zero = refl
up-neg_ℤ (suc n) = refl

down-neg_ℤ : (n : ℕ) → down (neg_ℤ (pos n)) ≡ n
down-neg_ℤ zero = refl
down-neg_ℤ (suc n) = refl

pub neg_ℤ-neg_ℤ : (n : ℕ) → neg_ℤ (neg_ℤ (pos n)) ≡ pos n
neg_ℤ-neg_ℤ zero = refl
neg_ℤ-neg_ℤ (suc n) = refl

-- of a number that is not below 0 the quotient rounded up is that of whole numbers
pub ceil_div-pos : (n d : ℕ) → 0 < d → ceil_div (pos n) d ≡ pos (div_ceil n d)
ceil_div-pos n d h =
    let r = ceil_rest n d h in
    let turned : floor_div (neg_ℤ (pos n)) d ≡ neg_ℤ (pos (div_ceil n d)) =
    floor_div-rest (neg_ℤ (pos n)) (neg_ℤ (pos (div_ceil n d))) d r.0 h
    (record { small = r.1; whole = rw (up-neg_ℤ n, down-neg_ℤ n, up-neg_ℤ (div_ceil n d), down-neg_ℤ (div_ceil n d)) (omega (arith, r.2)) }) in
    ap neg_ℤ turned ∙ neg_ℤ-neg_ℤ (div_ceil n d)
