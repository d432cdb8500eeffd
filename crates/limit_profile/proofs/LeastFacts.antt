-- The least of a number and of those of a list.
use Rattle.std.proofs.Common.{◌≡◌, ◌≤◌, ℕ, List, [], ◌∷◌, ◌++◌, min, refl, arith, ap, sym, ◌∙◌}
use Rattle.run_rules.specs.Caps.{least}

-- it is at most the number
pub least-le : (most : ℕ) (xs : List ℕ) → least most xs ≤ most
least-le most [] = omega arith
least-le most (x ∷ xs) = omega (arith, least-le most xs)

-- so the number is no more to it than its own least
pub least-min : (most : ℕ) (xs : List ℕ) → least most xs ≡ min most (least most xs)
least-min most xs = omega (arith, least-le most xs)

-- a smaller number to begin with
least-of-min : (x most : ℕ) (ys : List ℕ) → least (min x most) ys ≡ min x (least most ys)
least-of-min x most [] = refl
least-of-min x most (y ∷ ys) = omega (arith, least-of-min x most ys)

-- the least of a number and two lists, one after the other
pub least-append : (most : ℕ) (xs ys : List ℕ) → least most (xs ++ ys) ≡ least (least most xs) ys
least-append most [] ys = refl
least-append most (x ∷ xs) ys = let rest = least-append most xs ys in let first = least-of-min x (least most xs) ys in cc

-- the least of a number and either list is the lesser of the leasts of both
pub least-meet : (most : ℕ) (xs ys : List ℕ) → least (least most xs) ys ≡ min (least most xs) (least most ys)
least-meet most xs ys =
    let less : min (least most xs) most ≡ least most xs = omega (arith, least-le most xs) in
    ap (λ (m : ℕ). least m ys) (sym less) ∙ least-of-min (least most xs) most ys
