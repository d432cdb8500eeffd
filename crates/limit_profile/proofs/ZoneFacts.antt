-- The cap of zones, by halves of them.
use Rattle.std.proofs.Common.{◌≡◌, ◌<◌, arith, inl, inr, ◌≤◌, ◌+◌, ℕ, zero, suc, false, get_or, List, [], ◌∷◌, ◌++◌, All, Contains, Bool, true, cond, refl, min, map, length, take, drop, ◌-◌, sym, ap, ◌∙◌}
use Rattle.std.specs.List.{filter}
use Rattle.std.specs.List.Sorted.{IsPermutation}
use Rattle.std.proofs.lemmas.Bool.{cases_Bool}
use Rattle.std.proofs.lemmas.List.{drop_more, map-append, take-append-drop, take_more, take_rest}
use Rattle.std.proofs.lemmas.List.Elements.{All-contains_itself, filter-append}
use Rattle.std.proofs.lemmas.List.Sorted.{All-permutation, IsPermutation-sym}
use Rattle.unit_rules.specs.declared.Zone.{Zone}
use Rattle.run_rules.specs.Caps.{binding_at, binds_at}
use Rattle.run_rules.specs.Speeds.{squared}
use Rattle.limit_profile.specs.Breaks.{zoned_at}
use Rattle.limit_profile.specs.Changes.{ComesFrom}
use Rattle.limit_profile.specs.Course.{zoned}
use Rattle.limit_profile.specs.declared.changes.Change.TheVariants.{Added, Removed}
use Rattle.limit_profile.specs.declared.pieces.Course.{Course}
use Rattle.limit_profile.proofs.LeastFacts.{least-append, least-le, least-meet}

-- zones of both parts bind by the lesser cap
pub zoned_at-append : (length train top : ℕ) (xs ys : List Zone) (i : ℕ) → zoned_at length train top (xs ++ ys) i ≡ min (zoned_at length train top xs i) (zoned_at length train top ys i)
zoned_at-append length train top xs ys i =
    let parts : binding_at length train (xs ++ ys) i ≡ binding_at length train xs i ++ binding_at length train ys i =
    ap (map (λ (z : Zone). squared z.kmh)) (filter-append (λ (z : Zone). binds_at length train i z) xs ys) ∙ map-append (λ (z : Zone). squared z.kmh) (filter (λ (z : Zone). binds_at length train i z) xs) (filter (λ (z : Zone). binds_at length train i z) ys) in
    rw parts (least-append (squared top) (binding_at length train xs i) (binding_at length train ys i) ∙ least-meet (squared top) (binding_at length train xs i) (binding_at length train ys i))

-- so it is for the halves of a list
pub zoned_at-halves : (line train top : ℕ) (zones : List Zone) (middle i : ℕ) → zoned_at line train top zones i
    ≡ min (zoned_at line train top (take middle zones) i) (zoned_at line train top (take (length zones - middle) (drop middle zones)) i)
zoned_at-halves line train top zones middle i =
    rw (take_rest zones middle) (ap (λ (zs : List Zone). zoned_at line train top zs i) (sym (take-append-drop middle zones)) ∙ zoned_at-append line train top (take middle zones) (drop middle zones) i)

-- one zone has its number where it binds, or the top speed where that is less
pub zoned_at-binds : (line train top : ℕ) (zone : Zone) (i : ℕ) (b : Bool) → binds_at line train i zone ≡ b → zoned_at line train top (zone ∷ []) i ≡ cond b (min (squared zone.kmh) (squared top)) (squared top)
zoned_at-binds line train top zone i true e = rw e refl
zoned_at-binds line train top zone i false e = rw e refl

-- the cap of one zone more is no other where it doesn't bind, or where the cap is below its own
pub zoned_at-unbound : (line train top : ℕ) (zones : List Zone) (zone : Zone) (i : ℕ) → binds_at line train i zone ≡ false → min (zoned_at line train top zones i) (zoned_at line train top (zone ∷ []) i) ≡ zoned_at line train top zones i
zoned_at-unbound line train top zones zone i e = omega (arith, zoned_at-binds line train top zone i false e, least-le (squared top) (binding_at line train zones i))

pub zoned_at-hidden : (line train top : ℕ) (zones : List Zone) (zone : Zone) (i : ℕ) → (binds_at line train i zone ≡ true → min (zoned_at line train top zones i) (zoned_at line train top (zone ∷ []) i) < squared zone.kmh)
    → min (zoned_at line train top zones i) (zoned_at line train top (zone ∷ []) i) ≡ zoned_at line train top zones i
zoned_at-hidden line train top zones zone i below = elim (cases_Bool (binds_at line train i zone)) [
  | inl e ↦ omega (arith, below e, zoned_at-binds line train top zone i true e, least-le (squared top) (binding_at line train zones i))
  | inr e ↦ zoned_at-unbound line train top zones zone i e
]

pub zoned_at-free : (line train top : ℕ) (zones : List Zone) (zone : Zone) (i : ℕ) → binds_at line train i zone ≡ false → zoned_at line train top (zones ++ zone ∷ []) i ≡ zoned_at line train top zones i
zoned_at-free line train top zones zone i e = zoned_at-append line train top zones (zone ∷ []) i ∙ zoned_at-unbound line train top zones zone i e

-- so zones that don't bind at a point may be left out there
pub zoned_at-skipped : (line train top : ℕ) (zones : List Zone) (from k until i : ℕ) → until ≡ from + k → until ≤ length zones → ((j : ℕ) (d : Zone) → from ≤ j → j < until → binds_at line train i (get_or zones j d) ≡ false)
    → zoned_at line train top (take until zones) i ≡ zoned_at line train top (take from zones) i
zoned_at-skipped line train top zones from zero until i e l free = let same : until ≡ from = omega arith in rw same refl
zoned_at-skipped line train top zones from (suc k) until i e l free =
    let none : Zone = record { from = 0; to = 0; kmh = 0 } in
    let next : until ≡ from + k + 1 = omega arith in
    let last = take_more zones (from + k) none (omega arith) in
    rw (next, last) (zoned_at-free line train top (take (from + k) zones) (get_or zones (from + k) none) i (free (from + k) none (omega arith) (omega arith))
    ∙ zoned_at-skipped line train top zones from k (from + k) i refl (omega arith) (λ j d a b. free j d a (omega arith)))

-- of zones one may be taken out and met last
pub zoned_at-about : (line train top : ℕ) (front back : List Zone) (zone : Zone) (i : ℕ) → zoned_at line train top (front ++ zone ∷ back) i ≡ min (zoned_at line train top (front ++ back) i) (zoned_at line train top (zone ∷ []) i)
zoned_at-about line train top front back zone i =
    omega (arith, zoned_at-append line train top front (zone ∷ back) i, zoned_at-append line train top (zone ∷ []) back i, zoned_at-append line train top front back i)

-- zones about one of them
pub zones-about : (zones : List Zone) (place : ℕ) (none zone : Zone) → place < length zones → get_or zones place none ≡ zone → zones ≡ take place zones ++ zone ∷ drop (place + 1) zones
zones-about zones place none zone l e =
    let at : drop place zones ≡ zone ∷ drop (place + 1) zones = drop_more zones place none l ∙ ap (λ (z : Zone). z ∷ drop (place + 1) zones) e in
    sym (take-append-drop place zones) ∙ ap (λ (zs : List Zone). take place zones ++ zs) at

-- zones among which another one is bind at most as it does
zoned_at-one : (line train top : ℕ) (zones : List Zone) (zone : Zone) (i : ℕ) → Contains zones zone → zoned_at line train top zones i ≤ zoned_at line train top (zone ∷ []) i
zoned_at-one line train top zones zone i (place, l, is) =
    let parts = zones-about zones place zone zone l is in
    omega (arith, ap (λ (zs : List Zone). zoned_at line train top zs i) parts, zoned_at-about line train top (take place zones) (drop (place + 1) zones) zone i)

-- so do those among which are all of others
pub zoned_at-within : (line train top : ℕ) (xs ys : List Zone) (i : ℕ) → All (Contains xs) ys → zoned_at line train top xs i ≤ zoned_at line train top ys i
zoned_at-within line train top xs [] i within = least-le (squared top) (binding_at line train xs i)
zoned_at-within line train top xs (y ∷ ys) i within =
    omega (
      arith,
      zoned_at-append line train top (y ∷ []) ys i,
      zoned_at-one line train top xs y i (within 0 y (omega arith)),
      zoned_at-within line train top xs ys i (λ k d l. within (suc k) d (omega arith)),
    )

-- so zones have the same caps in any order
pub zoned_at-permutation : (line train top : ℕ) (xs ys : List Zone) (i : ℕ) → IsPermutation xs ys → zoned_at line train top xs i ≡ zoned_at line train top ys i
zoned_at-permutation line train top xs ys i same =
    omega (
      arith,
      zoned_at-within line train top xs ys i (All-permutation (Contains xs) xs ys same (All-contains_itself xs)),
      zoned_at-within line train top ys xs i (All-permutation (Contains ys) ys xs (IsPermutation-sym xs ys same) (All-contains_itself ys)),
    )

-- one zone more changes the caps where it binds, to the lesser of its own and of those before
pub zoned_at-added : (c : Course) (before after : List Zone) (zone : Zone) → IsPermutation (zone ∷ before) after → ComesFrom c Added zone [] (zoned c before) (zoned c after)
zoned_at-added c before after zone same =
    let met = λ (i : ℕ). zoned_at-append c.length c.train c.top (zone ∷ []) before i in
    let order = λ (i : ℕ). zoned_at-permutation c.length c.train c.top (zone ∷ before) after i same in
    record {
      outside = λ i e. omega (arith, met i, order i, zoned_at-unbound c.length c.train c.top before zone i e);
      inside = λ i e. omega (arith, met i, order i, zoned_at-binds c.length c.train c.top zone i true e, least-le (squared c.top) (binding_at c.length c.train before i));
    }

-- the caps before one zone less are the lesser of those after and of its own
pub zoned_at-freed : (c : Course) (before after : List Zone) (zone : Zone) (i : ℕ) → IsPermutation before (zone ∷ after) → zoned c before i ≡ min (zoned c after i) (zoned c (zone ∷ []) i)
zoned_at-freed c before after zone i same =
    omega (arith, zoned_at-permutation c.length c.train c.top before (zone ∷ after) i same, zoned_at-append c.length c.train c.top (zone ∷ []) after i)

-- where it doesn't bind, these are those after
pub zoned_at-removed : (c : Course) (zones : List Zone) (zone : Zone) → ComesFrom c Removed zone zones (λ i. min (zoned c zones i) (zoned c (zone ∷ []) i)) (zoned c zones)
zoned_at-removed c zones zone = record {
  outside = λ i e. sym (zoned_at-unbound c.length c.train c.top zones zone i e);
  inside = λ i e. refl;
}
