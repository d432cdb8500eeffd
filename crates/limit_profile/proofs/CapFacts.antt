-- The caps of a profile, point by point and as a list.
use Rattle.std.proofs.Common.{◌≡◌, ◌≤◌, ◌+◌, ℕ, List, All, map, length, slice_index, sym, ◌∙◌, ap, arith}
use Rattle.std.proofs.lemmas.List.FromFn.{get_or-map-range_with_len, length-map-range_with_len}
use Rattle.std.specs.List.{range_with_len}
use Rattle.unit_rules.specs.Zone.{LiesOn}
use Rattle.unit_rules.specs.declared.Bound.{Bound}
use Rattle.unit_rules.specs.declared.Zone.{Zone}
use Rattle.run_rules.specs.Caps.{binding_at, bounds_at, cap_at, least}
use Rattle.run_rules.specs.Speeds.{squared}
use Rattle.limit_profile.specs.Breaks.{zoned_at}
use Rattle.limit_profile.specs.Profile.{AreAlike, IsProfile, Profile, cap, caps, rezoned}
use Rattle.limit_profile.proofs.LeastFacts.{least-append, least-le}
use Rattle.limit_profile.proofs.ZoneFacts.{zoned_at-permutation}

-- the least of the zones that bind, and then of the bounds
pub cap-least : (p : Profile) (point zoned result : ℕ) → zoned ≡ least (squared p.top) (binding_at p.length p.train p.zones point)
    → result ≡ least zoned (bounds_at p.bounds point) → result ≡ cap p point
cap-least p point zoned result e f =
    f ∙ ap (λ (m : ℕ). least m (bounds_at p.bounds point)) e ∙ sym (least-append (squared p.top) (binding_at p.length p.train p.zones point) (bounds_at p.bounds point))

-- no cap is above the top speed
pub cap-le : (p : Profile) (point : ℕ) → cap p point ≤ squared p.top
cap-le p point = least-le (squared p.top) _

-- the list has a cap for each point, and at a point the cap there
pub length-caps : (p : Profile) → length (caps p) ≡ p.length + 1
length-caps p = length-map-range_with_len (cap p) 0 (p.length + 1)

pub slice_index-caps : (p : Profile) (point : ℕ) → point ≤ p.length → slice_index (caps p) point ≡ cap p point
slice_index-caps p point h = get_or-map-range_with_len (cap p) 0 (p.length + 1) point point 0 (omega arith) (omega arith)

-- where the zones have one cap and the bounds are the same, so is the cap
pub cap-level : (p : Profile) (i point zoned result : ℕ) → zoned_at p.length p.train p.top p.zones i ≡ zoned → bounds_at p.bounds i ≡ bounds_at p.bounds point
    → result ≡ least zoned (bounds_at p.bounds point) → cap p i ≡ result
cap-level p i point zoned result zones bounds is = sym (cap-least p i zoned result (sym zones) (is ∙ ap (least zoned) (sym bounds)))

-- the cap at a point is that of the zones, and then of the bounds there, so it is the same where theirs is
pub cap_at-level : (line train top : ℕ) (xs ys : List Zone) (bounds : List Bound) (i : ℕ) → zoned_at line train top xs i ≡ zoned_at line train top ys i → cap_at line train top xs bounds i ≡ cap_at line train top ys bounds i
cap_at-level line train top xs ys bounds i same =
    let parts = λ (zones : List Zone). least-append (squared top) (binding_at line train zones i) (bounds_at bounds i) in
    parts xs ∙ ap (λ m. least m (bounds_at bounds i)) same ∙ sym (parts ys)

-- limits that are alike have the same caps
pub caps-alike : (p q : Profile) → AreAlike p q → caps p ≡ caps q
caps-alike p q alike =
    let same = λ (i : ℕ). cap_at-level p.length p.train p.top p.zones q.zones p.bounds i (zoned_at-permutation p.length p.train p.top p.zones q.zones i alike.zones) in
    let listed : caps p ≡ caps (rezoned p q.zones p.spare) = λ k. map (λ i. same i k) (range_with_len 0 (p.length + 1)) in
    listed ∙ ap caps (sym alike.rest)

-- a profile stays one with other zones that lie on the line
pub IsProfile-rezoned : (p : Profile) (zones : List Zone) (spare : ℕ) → IsProfile p → All (LiesOn p.length) zones → IsProfile (rezoned p zones spare)
IsProfile-rezoned p zones spare is lie = record {
  length_least = is.length_least;
  length_most = is.length_most;
  train_least = is.train_least;
  train_most = is.train_most;
  top_least = is.top_least;
  top_most = is.top_most;
  zones_lie = lie;
  bounds_lie = is.bounds_lie;
}
