-- What two tests keep of a list.
use Rattle.std.proofs.Common.{◌≡◌, ℕ, ◌+◌, ◌<◌, List, ◌∷◌, Bool, true, false, cond, map, length, drop, get_or, ap, add-one, drop-cons}
use Rattle.std.specs.List.{filter}

kept_by : {X : Type 0} (f : X → ℕ) (x : X) (ps qs : List X) (a b : Bool) → a ≡ b → map f ps ≡ map f qs → map f (cond a (x ∷ ps) ps) ≡ map f (cond b (x ∷ qs) qs)
kept_by f x ps qs true b e h = rw (← e) (ap (λ (ys : List ℕ). f x ∷ ys) h)
kept_by f x ps qs false b e h = rw (← e) h

-- two tests that agree on one more element keep alike of one more
pub kept-cons : {X : Type 0} (f : X → ℕ) (p q : X → Bool) (x : X) (xs : List X) → p x ≡ q x → map f (filter p xs) ≡ map f (filter q xs) → map f (filter p (x ∷ xs)) ≡ map f (filter q (x ∷ xs))
kept-cons f p q x xs e h = kept_by f x (filter p xs) (filter q xs) (p x) (q x) e h

-- so of what is left of a list, one element earlier
pub kept-drop : {X : Type 0} (f : X → ℕ) (p q : X → Bool) (xs : List X) (i : ℕ) (d : X) → i < length xs → p (get_or xs i d) ≡ q (get_or xs i d)
    → map f (filter p (drop (i + 1) xs)) ≡ map f (filter q (drop (i + 1) xs)) → map f (filter p (drop i xs)) ≡ map f (filter q (drop i xs))
kept-drop f p q xs i d l e h = let one : drop i xs ≡ get_or xs i d ∷ drop (i + 1) xs = rw add-one (drop-cons xs i d l) in rw one (kept-cons f p q (get_or xs i d) (drop (i + 1) xs) e h)
