-- The restrictions in force: what is among them, and what a `put` and a `take` change of them.
use Rattle.std.proofs.Common.{◌≡◌, ◌≤◌, ◌<◌, ◌+◌, ℕ, List, [], ◌∷◌, ◌++◌, Bool, true, false, not, cond, Some, None, Ok, Err, length, get_or, slice_get, take, refl, ap, ◌∙◌, arith, inl, inr}
use Rattle.std.proofs.lemmas.Bool.{cases_Bool, le-ltb, lt-ltb}
use Rattle.std.proofs.lemmas.List.{map-append, map_push, take_more}
use Rattle.std.proofs.lemmas.List.Elements.{filter-append}
use Rattle.std.proofs.lemmas.List.Sums.{sum_by-cons}
use Rattle.std.proofs.lemmas.Option.{get_or_from_slice_get, none-some, same_Some, slice_get_within}
use Rattle.std.specs.List.{count_by, find}
use Rattle.std.specs.Option.{option_map}
use Rattle.unit_rules.specs.declared.Zone.{Zone}
use Rattle.restrictions.specs.declared.force.EditFault.TheVariants.{Full, Present}
use Rattle.restrictions.specs.Force.{AreDistinct, has_id, most_in_force, put_in, without, zone_of, zones_of}
use Rattle.restrictions.proofs.FindFacts.{filter-none, find-none_append, find-none_head, find-none_skip, find-none_tail}
use Rattle.restrictions.proofs.SeatFacts.{bytes_eq-back, not_found, same_from_bytes_eq}

-- where an ID has no zone, no restriction has the ID
pub has_id-none : (id : List ℕ) (pairs : List (List ℕ × Zone)) → zone_of id pairs ≡ None → find (has_id id) pairs ≡ None
has_id-none id pairs h = not_found (λ (p : List ℕ × Zone). p.1) (find (has_id id) pairs) h

pub zone_of-none : (id : List ℕ) (pairs : List (List ℕ × Zone)) → find (has_id id) pairs ≡ None → zone_of id pairs ≡ None
zone_of-none id pairs h = ap (option_map (λ (p : List ℕ × Zone). p.1)) h

-- IDs stay distinct where a restriction goes
pub AreDistinct-skip : (front : List (List ℕ × Zone)) (p : List ℕ × Zone) (back : List (List ℕ × Zone)) → AreDistinct (front ++ p ∷ back) → AreDistinct (front ++ back)
AreDistinct-skip [] p back h = h.1
AreDistinct-skip (q ∷ front) p back h =
    (zone_of-none q.0 (front ++ back) (find-none_skip (has_id q.0) front p back (has_id-none q.0 (front ++ p ∷ back) h.0)), AreDistinct-skip front p back h.1)

-- and no restriction behind one has its ID
pub AreDistinct-back : (front : List (List ℕ × Zone)) (p : List ℕ × Zone) (back : List (List ℕ × Zone)) → AreDistinct (front ++ p ∷ back) → find (has_id p.0) back ≡ None
AreDistinct-back [] p back h = has_id-none p.0 back h.0
AreDistinct-back (q ∷ front) p back h = AreDistinct-back front p back h.1

-- they stay so where one comes whose ID none has
pub AreDistinct-push : (pairs : List (List ℕ × Zone)) (id : List ℕ) (zone : Zone) → zone_of id pairs ≡ None → AreDistinct pairs → AreDistinct (pairs ++ (id, zone) ∷ [])
AreDistinct-push [] id zone none h = (refl, tt)
AreDistinct-push (q ∷ pairs) id zone none h =
    let free = has_id-none id (q ∷ pairs) none in
    let other : has_id q.0 (id, zone) ≡ false = bytes_eq-back q.0 id (find-none_head (has_id id) q pairs free) in
    let rest = zone_of-none id pairs (find-none_tail (has_id id) q pairs free) in
    (zone_of-none q.0 (pairs ++ (id, zone) ∷ []) (find-none_append (has_id q.0) pairs ((id, zone) ∷ []) (has_id-none q.0 pairs h.0) (rw other refl)), AreDistinct-push pairs id zone rest h.1)

-- what is left without an ID that one restriction has
pub without-one : (id : List ℕ) (front : List (List ℕ × Zone)) (p : List ℕ × Zone) (back : List (List ℕ × Zone)) → find (has_id id) front ≡ None → has_id id p ≡ true → find (has_id id) back ≡ None
    → without id (front ++ p ∷ back) ≡ front ++ back
without-one id front p back before at behind =
    filter-append (λ q. not (has_id id q)) front (p ∷ back) ∙ rw (filter-none (has_id id) front before, at, filter-none (has_id id) back behind) refl

-- a `put` is refused or not by what is in force
pub put_in-present : (id : List ℕ) (zone z : Zone) (pairs : List (List ℕ × Zone)) → zone_of id pairs ≡ Some z → put_in id zone pairs ≡ Err Present
put_in-present id zone z pairs h = rw h refl

pub put_in-full : (id : List ℕ) (zone : Zone) (pairs : List (List ℕ × Zone)) → zone_of id pairs ≡ None → most_in_force ≤ length pairs → put_in id zone pairs ≡ Err Full
put_in-full id zone pairs h l = rw (h, le-ltb (length pairs) most_in_force l) refl

pub put_in-made : (id : List ℕ) (zone : Zone) (pairs : List (List ℕ × Zone)) → zone_of id pairs ≡ None → length pairs < most_in_force → put_in id zone pairs ≡ Ok (pairs ++ (id, zone) ∷ [])
put_in-made id zone pairs h l = rw (h, lt-ltb (length pairs) most_in_force l) refl

-- the zones after a `put`
pub zones_of-push : (pairs : List (List ℕ × Zone)) (id : List ℕ) (zone : Zone) → zones_of (pairs ++ (id, zone) ∷ []) ≡ zones_of pairs ++ zone ∷ []
zones_of-push pairs id zone = map-append (λ (p : List ℕ × Zone). p.1) pairs ((id, zone) ∷ [])

-- the zones without an ID: one zone fewer
count_cons : (t : Zone → Bool) (z : Zone) (zones : List Zone) → count_by t (z ∷ zones) ≡ cond (t z) 1 0 + count_by t zones
count_cons t z zones = sum_by-cons (λ (x : Zone). cond (t x) 1 0) z zones

pub count_by-without : (t : Zone → Bool) (id : List ℕ) (z : Zone) (pairs : List (List ℕ × Zone)) → AreDistinct pairs → zone_of id pairs ≡ Some z
    → count_by t (zones_of pairs) ≡ count_by t (zones_of (without id pairs)) + cond (t z) 1 0
count_by-without t id z [] h e = absurd (none-some z e)
count_by-without t id z (p ∷ pairs) h e = elim (cases_Bool (has_id id p)) [
  | inl at ↦
      let zone : Some p.1 ≡ Some z = rw at at e in
      let same = same_from_bytes_eq p.0 id at in
      let alone = has_id-none id pairs (rw same at h.0) in
      let left : without id (p ∷ pairs) ≡ pairs = rw at (filter-none (has_id id) pairs alone) in
      let first = count_cons t p.1 (zones_of pairs) in
      let z_is = same_Some p.1 z zone in
      rw (left, ← z_is) (omega (arith, first))
  | inr other ↦
      let rest = count_by-without t id z pairs h.1 (rw other at e) in
      let first = count_cons t p.1 (zones_of pairs) in
      let left : without id (p ∷ pairs) ≡ p ∷ without id pairs = rw other refl in
      let then = count_cons t p.1 (zones_of (without id pairs)) in
      rw left (omega (arith, first, then, rest))
]

-- the zones of one more restriction
pub zones_of-more : (pairs : List (List ℕ × Zone)) (place : ℕ) (p : List ℕ × Zone) → slice_get pairs place ≡ Some p → zones_of (take (place + 1) pairs) ≡ zones_of (take place pairs) ++ p.1 ∷ []
zones_of-more pairs place p at =
    let within = slice_get_within pairs place p at in
    let here = get_or_from_slice_get pairs place p p at in
    ap zones_of (take_more pairs place p within) ∙ map_push (λ (q : List ℕ × Zone). q.1) (take place pairs) (get_or pairs place p) ∙ ap (λ (q : List ℕ × Zone). zones_of (take place pairs) ++ q.1 ∷ []) here
