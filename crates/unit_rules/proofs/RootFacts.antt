-- The square root rounded down is the one number with its two bounds.
use Rattle.std.proofs.Common.{◌≡◌, ◌≢◌, ℕ, zero, suc, ◌+◌, ◌-◌, ◌*◌, ◌^◌, ◌<◌, ◌≤◌, ◌==◌, Bool, true, false, cond, leb, inl, inr, arith, refl, ap, mul-le-mul, leb-true, leb-false, eq-eqb}
use Rattle.std.proofs.lemmas.Bool.{cases_order, cases_lt, cases_eq, ne_eqb}
use Rattle.unit_rules.specs.Roots.{IsCeilingOfRoot, IsFloorOfRoot, root_ceil, root_floor, root_up_to}

-- r is the square root of n rounded down
pub record IsRootFloor (n r : ℕ) : Type 0 where
  pub square_le : r * r ≤ n
  pub next_square_gt : n < (r + 1) * (r + 1)

root_tested : (most n : ℕ) (b : Bool) → leb (suc most * suc most) n ≡ b → n < (suc most + 1) * (suc most + 1)
    → (n < (most + 1) * (most + 1) → IsRootFloor n (root_up_to most n)) → IsRootFloor n (cond b (suc most) (root_up_to most n))
root_tested most n true e h f = record { square_le = leb-true (suc most * suc most) n e; next_square_gt = h }
root_tested most n false e h f = f (omega (arith, leb-false (suc most * suc most) n e))

root_up_to-is : (most n : ℕ) → n < (most + 1) * (most + 1) → IsRootFloor n (root_up_to most n)
root_up_to-is zero n h = record { square_le = omega arith; next_square_gt = h }
root_up_to-is (suc most) n h = root_tested most n (leb (suc most * suc most) n) refl h (λ l. root_up_to-is most n l)

pub root_floor-is : (n : ℕ) → IsRootFloor n (root_floor n)
unfolding root_floor
root_floor-is n = root_up_to-is n n (omega arith)

pub squares : (a b : ℕ) → a ≤ b → a * a ≤ b * b
squares a b h = mul-le-mul h h

-- no other number has both bounds
pub IsRootFloor-same : (n r s : ℕ) → IsRootFloor n r → IsRootFloor n s → r ≡ s
IsRootFloor-same n r s f g =
    elim (cases_order r s) [
      | inl e ↦ e
      | inr o ↦ elim o [
        | inl l ↦ absurd (omega (arith, f.next_square_gt, g.square_le, squares (r + 1) s (omega arith)))
        | inr l ↦ absurd (omega (arith, g.next_square_gt, f.square_le, squares (s + 1) r (omega arith)))
      ]
    ]

-- the bounds make it the root, and the greatest number with no greater square
pub IsRootFloor-root : (n r : ℕ) → IsRootFloor n r → r ≡ root_floor n
IsRootFloor-root n r f = IsRootFloor-same n r (root_floor n) f (root_floor-is n)

pub IsRootFloor-greatest : (n r : ℕ) → IsRootFloor n r → IsFloorOfRoot n r
IsRootFloor-greatest n r f = record {
  at_most = f.square_le;
  greatest = λ s h. elim (cases_lt r s) [
    | inl l ↦ absurd (omega (arith, f.next_square_gt, squares (r + 1) s (omega arith)))
    | inr g ↦ g
  ];
}

IsRootFloor-of : (n r : ℕ) → r ≡ root_floor n → IsRootFloor n r
IsRootFloor-of n r e = rw e (root_floor-is n)

-- a root rounded down has half the digits
pub root_floor-fits : (n r : ℕ) → n < 2 ^ 64 → r ≡ root_floor n → r < 2 ^ 32
root_floor-fits n r small e = let f = IsRootFloor-of n r e in elim (cases_lt r (2 ^ 32)) [
  | inl l ↦ l
  | inr g ↦ absurd (omega (arith, f.square_le, squares (2 ^ 32) r g))
]

pub root_floor-square : (n r : ℕ) → r ≡ root_floor n → r * r ≤ n
root_floor-square n r e = let f = IsRootFloor-of n r e in f.square_le

pub root_floor-rest : (n r : ℕ) → r ≡ root_floor n → n - r * r ≤ 2 * r
root_floor-rest n r e = let f = IsRootFloor-of n r e in omega (arith, f.next_square_gt)

-- a square that leaves no more than twice the number
pub IsRootFloor-rest : (n r : ℕ) → r * r ≤ n → n - r * r ≤ 2 * r → IsRootFloor n r
IsRootFloor-rest n r l h = record { square_le = l; next_square_gt = omega arith }

pub root_floor-greatest : (n : ℕ) → IsFloorOfRoot n (root_floor n)
root_floor-greatest n = IsRootFloor-greatest n (root_floor n) (root_floor-is n)

-- the square of the root is n, or n lies between it and the next
pub root_ceil-exact : (n r : ℕ) → r ≡ root_floor n → r * r ≡ n → r ≡ root_ceil n
unfolding root_ceil
root_ceil-exact n r e h =
    let square : root_floor n * root_floor n ≡ n = rw e at h in
    let exact : (root_floor n * root_floor n == n) ≡ true = eq-eqb (root_floor n * root_floor n) n square in
    rw exact e

pub root_ceil-above : (n r : ℕ) → r ≡ root_floor n → r * r ≢ n → r + 1 ≡ root_ceil n
unfolding root_ceil
root_ceil-above n r e h =
    let square : root_floor n * root_floor n ≢ n = rw e at h in
    let above : (root_floor n * root_floor n == n) ≡ false = ne_eqb (root_floor n * root_floor n) n square in
    rw above (ap (λ x. x + 1) e)

pub IsCeilingOfRoot-exact : (n r : ℕ) → r * r ≡ n → IsCeilingOfRoot n r
IsCeilingOfRoot-exact n r h = record {
  at_least = omega arith;
  least = λ s l. elim (cases_lt s r) [
    | inl less ↦ absurd (omega (arith, squares (s + 1) r (omega arith)))
    | inr g ↦ g
  ];
}

pub IsCeilingOfRoot-above : (n r : ℕ) → IsRootFloor n r → r * r ≢ n → IsCeilingOfRoot n (r + 1)
IsCeilingOfRoot-above n r f h = record {
  at_least = omega (arith, f.next_square_gt);
  least = λ s l. elim (cases_lt r s) [
    | inl less ↦ omega arith
    | inr g ↦ absurd (omega (arith, f.square_le, squares s r g))
  ];
}

pub root_ceil-least : (n : ℕ) → IsCeilingOfRoot n (root_ceil n)
root_ceil-least n = elim (cases_eq (root_floor n * root_floor n) n) [
  | inl e ↦ rw (← root_ceil-exact n (root_floor n) refl e) (IsCeilingOfRoot-exact n (root_floor n) e)
  | inr h ↦ rw (← root_ceil-above n (root_floor n) refl h) (IsCeilingOfRoot-above n (root_floor n) (root_floor-is n) h)
]

-- the root rounded down is no more than the root rounded up
pub root_floor-ceil : (n : ℕ) → root_floor n ≤ root_ceil n
root_floor-ceil n =
    let low = root_floor-greatest n in
    let high = root_ceil-least n in
    elim (cases_lt (root_ceil n) (root_floor n)) [
      | inl less ↦ absurd (omega (arith, low.at_most, high.at_least, squares (root_ceil n + 1) (root_floor n) (omega arith)))
      | inr g ↦ g
    ]

-- both roots are no less of a greater number
pub root_floor-mono : (m n : ℕ) → m ≤ n → root_floor m ≤ root_floor n
root_floor-mono m n h =
    let low = root_floor-greatest m in
    let high = root_floor-greatest n in
    let square = low.at_most in
    high.greatest (root_floor m) (omega arith)

pub root_ceil-mono : (m n : ℕ) → m ≤ n → root_ceil m ≤ root_ceil n
root_ceil-mono m n h =
    let low = root_ceil-least m in
    let high = root_ceil-least n in
    let square = high.at_least in
    low.least (root_ceil n) (omega arith)
