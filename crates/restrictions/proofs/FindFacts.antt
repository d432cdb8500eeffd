-- What is found in a list, and where, as it gains or loses an element.
use Rattle.std.proofs.Common.{◌≡◌, ◌≤◌, ◌<◌, ◌+◌, ℕ, suc, List, [], ◌∷◌, ◌++◌, Bool, true, false, not, cond, ltb, Some, None, length, get_or, take, drop, refl, sym, ap, ◌∙◌, arith, drop-cons, inl, inr}
use Rattle.std.proofs.lemmas.Bool.{cases_Bool, cases_lt, le-ltb, lt-ltb, true≢false}
use Rattle.std.proofs.lemmas.Iterator.Adapters.{position_from-zero}
use Rattle.std.proofs.lemmas.List.{get_or-take, length-take-le, take-append-drop}
use Rattle.std.proofs.lemmas.List.Folds.{find-append, find_at}
use Rattle.std.proofs.lemmas.List.Quantifiers.{position-Some}
use Rattle.std.proofs.lemmas.Option.{none-some, slice_get_past}
use Rattle.std.specs.List.{filter, find, position, position_from, position_or_len}
use Rattle.std.specs.Option.{option_map}
use Rattle.restrictions.specs.Seats.{closed_up}

-- a list is what is before a place, what is at it and what is behind it
pub about : {X : Type 0} (xs : List X) (n : ℕ) (d : X) → n < length xs → xs ≡ take n xs ++ get_or xs n d ∷ drop (suc n) xs
about xs n d l = sym (take-append-drop n xs) ∙ ap (λ ys. take n xs ++ ys) (drop-cons xs n d l)

-- nothing is found where no element passes
pub find-none : {X : Type 0} (t : X → Bool) (xs : List X) → ((k : ℕ) (d : X) → k < length xs → t (get_or xs k d) ≡ false) → find t xs ≡ None
find-none t [] fails = refl
find-none t (x ∷ xs) fails = rw (fails 0 x (omega arith)) (find-none t xs (λ k d l. fails (suc k) d (omega arith)))

found_not : {X : Type 0} (t : X → Bool) (x : X) (xs : List X) → t x ≡ true → find t (x ∷ xs) ≡ None → ⊥
found_not t x xs e h = none-some x (sym h ∙ rw e refl)

-- where nothing is found, the first element fails, and nothing is found behind it
pub find-none_head : {X : Type 0} (t : X → Bool) (x : X) (xs : List X) → find t (x ∷ xs) ≡ None → t x ≡ false
find-none_head t x xs h = elim (cases_Bool (t x)) [ inl e ↦ absurd (found_not t x xs e h) | inr e ↦ e ]

pub find-none_tail : {X : Type 0} (t : X → Bool) (x : X) (xs : List X) → find t (x ∷ xs) ≡ None → find t xs ≡ None
find-none_tail t x xs h = let e = find-none_head t x xs h in rw e at h

-- an element that fails isn't found
pub find-skip : {X : Type 0} (t : X → Bool) (front : List X) (x : X) (back : List X) → t x ≡ false → find t (front ++ x ∷ back) ≡ find t (front ++ back)
find-skip t [] x back e = rw e refl
find-skip t (y ∷ front) x back e = ap (λ found. cond (t y) (Some y) found) (find-skip t front x back e)

-- the first one that passes is
pub find-at : {X : Type 0} (t : X → Bool) (front : List X) (x : X) (back : List X) → find t front ≡ None → t x ≡ true → find t (front ++ x ∷ back) ≡ Some x
find-at t front x back none e = rw (find-append, none, e) refl

pub find-none_append : {X : Type 0} (t : X → Bool) (front back : List X) → find t front ≡ None → find t back ≡ None → find t (front ++ back) ≡ None
find-none_append t front back e f = rw (find-append, e) f

pub find-none_front : {X : Type 0} (t : X → Bool) (front back : List X) → find t (front ++ back) ≡ None → find t front ≡ None
find-none_front t [] back h = refl
find-none_front t (x ∷ front) back h =
    let e = find-none_head t x (front ++ back) h in
    rw e (find-none_front t front back (find-none_tail t x (front ++ back) h))

-- nothing is found after an element more or less where nothing was, but for that element
pub find-none_skip : {X : Type 0} (t : X → Bool) (front : List X) (x : X) (back : List X) → find t (front ++ x ∷ back) ≡ None → find t (front ++ back) ≡ None
find-none_skip t [] x back h = find-none_tail t x back h
find-none_skip t (y ∷ front) x back h =
    let e = find-none_head t y (front ++ x ∷ back) h in
    rw e (find-none_skip t front x back (find-none_tail t y (front ++ x ∷ back) h))

-- a filter keeps all where nothing is found that it bars
pub filter-none : {X : Type 0} (t : X → Bool) (xs : List X) → find t xs ≡ None → filter (λ x. not (t x)) xs ≡ xs
filter-none t [] h = refl
filter-none t (x ∷ xs) h =
    let e = find-none_head t x xs h in
    rw e (ap (λ ys. x ∷ ys) (filter-none t xs (find-none_tail t x xs h)))

-- before it nothing is found
pub find-none_before : {X : Type 0} (t : X → Bool) (xs : List X) (n : ℕ) → position t xs ≡ Some n → find t (take n xs) ≡ None
find-none_before t xs n h = find-none t (take n xs) (λ k d l.
    let at = position-Some t xs n d h in
    let long = length-take-le n xs (omega arith) in
    let below : k < n = omega arith in
    rw get_or-take (at.2 k below))

-- what is at the first place that passes
pub find-position : {X : Type 0} (t : X → Bool) (xs : List X) (n : ℕ) (d : X) → position t xs ≡ Some n → find t xs ≡ Some (get_or xs n d)
find-position t xs n d h =
    let at = position-Some t xs n d h in
    let none = find-none_before t xs n h in
    ap (find t) (about xs n d at.0) ∙ find-at t (take n xs) (get_or xs n d) (drop (suc n) xs) none at.1

position-none_at : {X : Type 0} (t : X → Bool) (xs : List X) (b : Bool) → ltb (position_or_len t xs) (length xs) ≡ b → cond b (Some (position_or_len t xs)) None ≡ None → find t xs ≡ None
position-none_at t xs true e h = absurd (none-some _ (sym h))
position-none_at t xs false e h = find_at t xs ∙ slice_get_past xs _ (Rattle.std.proofs.lemmas.Bool.ltb-false _ _ e)

-- where there is no such place, nothing is found
pub find-position_none : {X : Type 0} (t : X → Bool) (xs : List X) → position t xs ≡ None → find t xs ≡ None
find-position_none t xs h = position-none_at t xs (ltb (position_or_len t xs) (length xs)) refl h

-- and the other way round
from_none : {X : Type 0} (t : X → Bool) (i : ℕ) (xs : List X) → find t xs ≡ None → position_from t i xs ≡ None
from_none t i [] h = refl
from_none t i (x ∷ xs) h = let e = find-none_head t x xs h in rw e (from_none t (i + 1) xs (find-none_tail t x xs h))

pub position-none : {X : Type 0} (t : X → Bool) (xs : List X) → find t xs ≡ None → position t xs ≡ None
position-none t xs h = position_from-zero t xs ∙ from_none t 0 xs h

-- one more element at the end is at a new place, where it passes and none before it does
from_end : {X : Type 0} (t : X → Bool) (i : ℕ) (xs : List X) (x : X) → find t xs ≡ None → t x ≡ true → position_from t i (xs ++ x ∷ []) ≡ Some (i + length xs)
from_end t i [] x h e = rw e (ap Some (omega arith))
from_end t i (y ∷ xs) x h e =
    let f = find-none_head t y xs h in
    rw f (from_end t (i + 1) xs x (find-none_tail t y xs h) e ∙ ap Some (omega arith))

pub position-end : {X : Type 0} (t : X → Bool) (xs : List X) (x : X) → find t xs ≡ None → t x ≡ true → position t (xs ++ x ∷ []) ≡ Some (length xs)
position-end t xs x h e = position_from-zero t (xs ++ x ∷ []) ∙ from_end t 0 xs x h e ∙ ap Some (omega arith)

-- one that fails changes no place
from_past : {X : Type 0} (t : X → Bool) (i : ℕ) (xs : List X) (x : X) → t x ≡ false → position_from t i (xs ++ x ∷ []) ≡ position_from t i xs
from_past t i [] x e = rw e refl
from_past t i (y ∷ xs) x e = ap (λ found. cond (t y) (Some i) found) (from_past t (i + 1) xs x e)

pub position-past : {X : Type 0} (t : X → Bool) (xs : List X) (x : X) → t x ≡ false → position t (xs ++ x ∷ []) ≡ position t xs
position-past t xs x e = position_from-zero t (xs ++ x ∷ []) ∙ from_past t 0 xs x e ∙ sym (position_from-zero t xs)

-- where an element that fails goes, the places behind it close up
closed_up-before : (left i : ℕ) → i ≤ left → closed_up left i ≡ i
closed_up-before left i l = rw (le-ltb left i l) refl

closed_up-behind : (left i : ℕ) → left ≤ i → closed_up left (i + 1) ≡ i
closed_up-behind left i l = rw (lt-ltb left (i + 1) (omega arith)) (omega arith)

from_behind : {X : Type 0} (t : X → Bool) (i left : ℕ) (back : List X) → left ≤ i → position_from t i back ≡ option_map (closed_up left) (position_from t (i + 1) back)
from_behind t i left [] l = refl
from_behind t i left (x ∷ back) l = elim (cases_Bool (t x)) [
  | inl e ↦ rw e (ap Some (sym (closed_up-behind left i l)))
  | inr e ↦ rw e (from_behind t (i + 1) left back (omega arith))
]

from_without : {X : Type 0} (t : X → Bool) (i left : ℕ) (front : List X) (x : X) (back : List X) → t x ≡ false → left ≡ i + length front
    → position_from t i (front ++ back) ≡ option_map (closed_up left) (position_from t i (front ++ x ∷ back))
from_without t i left [] x back e at = rw e (from_behind t i left back (omega arith))
from_without t i left (y ∷ front) x back e at = elim (cases_Bool (t y)) [
  | inl f ↦ rw f (ap Some (sym (closed_up-before left i (omega arith))))
  | inr f ↦ rw f (from_without t (i + 1) left front x back e (omega arith))
]

pub position-without : {X : Type 0} (t : X → Bool) (left : ℕ) (front : List X) (x : X) (back : List X) → t x ≡ false → left ≡ length front
    → position t (front ++ back) ≡ option_map (closed_up left) (position t (front ++ x ∷ back))
position-without t left front x back e at =
    position_from-zero t (front ++ back) ∙ from_without t 0 left front x back e (omega arith) ∙ ap (option_map (closed_up left)) (sym (position_from-zero t (front ++ x ∷ back)))
