-- Zones in any order: those of the restrictions in force, and the caps that they give.
use Rattle.std.proofs.Common.{◌≡◌, ℕ, zero, suc, ◌+◌, ◌<◌, ◌≤◌, ◌⊎◌, min, Bool, true, false, cond, not, ◌&&◌, ◌==◌, List, [], ◌∷◌, ◌++◌, length, map, slice_index, slice_index_or, count_by, All, Contains, Some, arith, ap, refl, sym, ◌∙◌, inl, inr}
use Rattle.std.specs.List.{range_with_len}
use Rattle.std.proofs.lemmas.Bool.{and_from, and_left, and_parts, and_right, cases_lt, eq-eqb, eqb-true, lt-leb}
use Rattle.std.proofs.lemmas.List.{get_or_past}
use Rattle.std.proofs.lemmas.List.Sorted.{sum_by-IsPermutation}
use Rattle.std.specs.List.Sorted.{IsPermutation}
use Rattle.std.proofs.lemmas.List.Elements.{All-cons, All-contains, All-contains_itself, All-head, All-push, All-tail, Contains-append_right}
use Rattle.std.proofs.lemmas.List.FromFn.{get_or-map-range_with_len, length-map-range_with_len}
use Rattle.std.proofs.lemmas.List.Sums.{sum_by-append, sum_by-cons}
use Rattle.unit_rules.specs.Zone.{LiesOn}
use Rattle.unit_rules.specs.declared.Bound.{Bound}
use Rattle.unit_rules.specs.declared.Zone.{Zone}
use Rattle.run_rules.specs.Caps.{binds_at, cap_at, caps_of}
use Rattle.run_rules.specs.Walks.{AgreeOutside}
use Rattle.limit_profile.proofs.CapFacts.{cap_at-level}
use Rattle.limit_profile.proofs.ZoneFacts.{zoned_at-within}
use Rattle.limit_profile.specs.Breaks.{zoned_at}
use Rattle.restrictions.proofs.ForceFacts.{count_by-without, zones_of-push}
use Rattle.restrictions.specs.Force.{AreDistinct, has_id, without, zone_of, zones_of}
use Rattle.incr_envelope.specs.Zones.{AreSame}

-- how many of two lists pass a test
count_by-append : (test : Zone → Bool) (xs ys : List Zone) → count_by test (xs ++ ys) ≡ count_by test xs + count_by test ys
count_by-append test = sum_by-append (λ z. cond (test z) 1 0)

count_by-cons : (test : Zone → Bool) (z : Zone) (zs : List Zone) → count_by test (z ∷ zs) ≡ cond (test z) 1 0 + count_by test zs
count_by-cons test = sum_by-cons (λ z. cond (test z) 1 0)

count_by-push : (test : Zone → Bool) (zs : List Zone) (z : Zone) → count_by test (zs ++ z ∷ []) ≡ count_by test zs + cond (test z) 1 0
count_by-push test zs z = omega (arith, count_by-append test zs (z ∷ []), count_by-cons test z [])

count_by-passes : (test : Zone → Bool) (z : Zone) (zs : List Zone) → test z ≡ true → count_by test (z ∷ zs) ≡ 1 + count_by test zs
count_by-passes test z zs e = count_by-cons test z zs ∙ ap {B = ℕ} (λ b. cond b 1 0 + count_by test zs) e

count_by-fails : (test : Zone → Bool) (z : Zone) (zs : List Zone) → test z ≡ false → count_by test (z ∷ zs) ≡ 0 + count_by test zs
count_by-fails test z zs e = count_by-cons test z zs ∙ ap {B = ℕ} (λ b. cond b 1 0 + count_by test zs) e

-- a list in another order has the same zones
pub AreSame-permutation : (xs ys : List Zone) → IsPermutation xs ys → AreSame xs ys
AreSame-permutation xs ys same test = sym (sum_by-IsPermutation (λ z. cond (test z) 1 0) xs ys same)

pub AreSame-sym : (xs ys : List Zone) → AreSame xs ys → AreSame ys xs
AreSame-sym xs ys same test = sym (same test)

-- limits and restrictions stay the zones of a profile where a zone is put among both
pub AreSame-put : (before after limits : List Zone) (pairs : List (List ℕ × Zone)) (id : List ℕ) (z : Zone) → AreSame (z ∷ before) after → AreSame before (limits ++ zones_of pairs)
    → AreSame after (limits ++ zones_of (pairs ++ (id, z) ∷ []))
AreSame-put before after limits pairs id z put same test =
    let pushed = ap (λ (zs : List Zone). count_by test (limits ++ zs)) (zones_of-push pairs id z) in
    omega (arith, put test, same test, pushed, count_by-cons test z before, count_by-append test limits (zones_of pairs), count_by-append test limits (zones_of pairs ++ z ∷ []), count_by-push test (zones_of pairs) z)

-- a zone of an ID is that of the first restriction, if it has the ID, or of one that follows
zone_of-cons : (id : List ℕ) (p : List ℕ × Zone) (ps : List (List ℕ × Zone)) (b : Bool) → has_id id p ≡ b → zone_of id (p ∷ ps) ≡ cond b (Some p.1) (zone_of id ps)
zone_of-cons id p ps true e = rw e refl
zone_of-cons id p ps false e = rw e refl

without-cons : (id : List ℕ) (p : List ℕ × Zone) (ps : List (List ℕ × Zone)) (b : Bool) → has_id id p ≡ b → without id (p ∷ ps) ≡ cond (not b) (p ∷ without id ps) (without id ps)
without-cons id p ps true e = rw e refl
without-cons id p ps false e = rw e refl

-- limits and restrictions stay the zones of a profile where a zone is taken from both
pub AreSame-taken : (before after limits : List Zone) (pairs : List (List ℕ × Zone)) (id : List ℕ) (z : Zone) → AreSame before (z ∷ after) → AreSame before (limits ++ zones_of pairs)
    → AreDistinct pairs → zone_of id pairs ≡ Some z → AreSame after (limits ++ zones_of (without id pairs))
AreSame-taken before after limits pairs id z taken same distinct at test =
    omega (
      arith,
      same test,
      taken test,
      count_by-cons test z after,
      count_by-append test limits (zones_of pairs),
      count_by-append test limits (zones_of (without id pairs)),
      count_by-without test id z pairs distinct at,
    )

-- the zone of an ID is one of those in force
zones_of-contains : (id : List ℕ) (z : Zone) (pairs : List (List ℕ × Zone)) → zone_of id pairs ≡ Some z → Contains (zones_of pairs) z
zones_of-contains id z [] at = absurd (cc at)
zones_of-contains id z (p ∷ ps) at = by (has_id id p) refl (zones_of-contains id z ps)
  where
    by : (b : Bool) → has_id id p ≡ b → (zone_of id ps ≡ Some z → Contains (zones_of ps) z) → Contains (zones_of (p ∷ ps)) z
    by true e rest = let found = zone_of-cons id p ps true e in let zone : p.1 ≡ z = cc in (0, omega arith, zone)
    by false e rest =
        let later = rest (sym (zone_of-cons id p ps false e) ∙ at) in
        let within = later.1 in
        (suc later.0, omega arith, later.2)

-- two zones of the same numbers are one
zone-same : (y z : Zone) → y.from ≡ z.from → y.to ≡ z.to → y.kmh ≡ z.kmh → y ≡ z
zone-same y z from to kmh = λ t. record { from = from t; to = to t; kmh = kmh t }

-- whether a zone is this one
is_zone : Zone → Zone → Bool
is_zone z y = ((y.from == z.from) && (y.to == z.to)) && (y.kmh == z.kmh)

is_zone-itself : (z : Zone) → is_zone z z ≡ true
unfolding is_zone
is_zone-itself z = and_from _ _ (and_from _ _ (eq-eqb z.from z.from refl) (eq-eqb z.to z.to refl)) (eq-eqb z.kmh z.kmh refl)

is_zone-same : (z y : Zone) → is_zone z y ≡ true → y ≡ z
unfolding is_zone
is_zone-same z y is =
    let ends = and_parts _ _ is in
    let both = and_parts _ _ ends.0 in
    zone-same y z (eqb-true y.from z.from both.0) (eqb-true y.to z.to both.1) (eqb-true y.kmh z.kmh ends.1)

-- a zone of a list that passes a test is counted
count_by-holds : (test : Zone → Bool) (zs : List Zone) (k : ℕ) (d : Zone) → k < length zs → test (slice_index_or zs k d) ≡ true → 1 ≤ count_by test zs
count_by-holds test [] k d l holds = absurd (omega arith)
count_by-holds test (z ∷ zs) zero d l holds = omega (arith, count_by-passes test z zs holds)
count_by-holds test (z ∷ zs) (suc k) d l holds = omega (arith, count_by-cons test z zs, count_by-holds test zs k d (omega arith) holds)

-- where one is counted, there is one
count_by-found : (test : Zone → Bool) (zs : List Zone) → 1 ≤ count_by test zs → (k : ℕ) × (k < length zs) × ((d : Zone) → test (slice_index_or zs k d) ≡ true)
count_by-found test [] some = absurd (omega arith)
count_by-found test (z ∷ zs) some = by (test z) refl (count_by-found test zs)
  where
    by : (b : Bool) → test z ≡ b → (1 ≤ count_by test zs → (k : ℕ) × (k < length zs) × ((d : Zone) → test (slice_index_or zs k d) ≡ true))
        → (k : ℕ) × (k < length (z ∷ zs)) × ((d : Zone) → test (slice_index_or (z ∷ zs) k d) ≡ true)
    by true e rest = (0, omega arith, λ d. e)
    by false e rest =
        let later = rest (omega (arith, count_by-fails test z zs e)) in
        let within = later.1 in
        (suc later.0, omega arith, later.2)

-- lists of the same zones contain the same
pub Contains-same : (xs ys : List Zone) (z : Zone) → AreSame xs ys → Contains ys z → Contains xs z
Contains-same xs ys z same at =
    let counted = count_by-holds (is_zone z) ys at.0 z at.1 (ap (is_zone z) at.2 ∙ is_zone-itself z) in
    let found = count_by-found (is_zone z) xs (omega (arith, same (is_zone z))) in
    (found.0, found.1, is_zone-same z (slice_index_or xs found.0 z) (found.2 z))

-- the zone of a restriction in force is one of the profile's
pub AreSame-contains : (zones limits : List Zone) (pairs : List (List ℕ × Zone)) (id : List ℕ) (z : Zone) → AreSame zones (limits ++ zones_of pairs) → zone_of id pairs ≡ Some z → Contains zones z
AreSame-contains zones limits pairs id z same at =
    Contains-same zones (limits ++ zones_of pairs) z same (Contains-append_right limits (zones_of pairs) z (zones_of-contains id z pairs at))

-- zones lie on a line after one that lies there was put in force
pub zones_lie-put : (n : ℕ) (pairs : List (List ℕ × Zone)) (id : List ℕ) (z : Zone) → All (LiesOn n) (zones_of pairs) → LiesOn n z → All (LiesOn n) (zones_of (pairs ++ (id, z) ∷ []))
zones_lie-put n pairs id z lie lies = rw (zones_of-push pairs id z) (All-push (LiesOn n) (zones_of pairs) z lie lies)

-- and after one was taken out
pub zones_lie-taken : (n : ℕ) (pairs : List (List ℕ × Zone)) (id : List ℕ) → All (LiesOn n) (zones_of pairs) → All (LiesOn n) (zones_of (without id pairs))
zones_lie-taken n [] id lie = lie
zones_lie-taken n (p ∷ ps) id lie = by (has_id id p) refl (zones_lie-taken n ps id (All-tail (LiesOn n) p.1 (zones_of ps) lie))
  where
    by : (b : Bool) → has_id id p ≡ b → All (LiesOn n) (zones_of (without id ps)) → All (LiesOn n) (zones_of (without id (p ∷ ps)))
    by true e rest = rw (without-cons id p ps true e) rest
    by false e rest = rw (without-cons id p ps false e) (All-cons (LiesOn n) p.1 (zones_of (without id ps)) (All-head (LiesOn n) p.1 (zones_of ps) lie) rest)

-- so each of them does
pub zone_lies : (n : ℕ) (pairs : List (List ℕ × Zone)) (id : List ℕ) (z : Zone) → All (LiesOn n) (zones_of pairs) → zone_of id pairs ≡ Some z → LiesOn n z
zone_lies n pairs id z lie at = All-contains (LiesOn n) (zones_of pairs) z lie (zones_of-contains id z pairs at)

-- zones in any order have the same caps
zoned_at-fewer : (line train top : ℕ) (xs ys : List Zone) (i : ℕ) → AreSame xs ys → zoned_at line train top xs i ≤ zoned_at line train top ys i
zoned_at-fewer line train top xs ys i same =
    zoned_at-within line train top xs ys i (λ k d l. Contains-same xs ys (slice_index_or ys k d) same (All-contains_itself ys k d l))

-- zones in any order have the same cap at each point
pub cap_at-same : (line train top : ℕ) (xs ys : List Zone) (bounds : List Bound) (i : ℕ) → AreSame xs ys → cap_at line train top xs bounds i ≡ cap_at line train top ys bounds i
cap_at-same line train top xs ys bounds i same =
    let zones : zoned_at line train top xs i ≡ zoned_at line train top ys i = omega (arith, zoned_at-fewer line train top xs ys i same, zoned_at-fewer line train top ys xs i (λ test. sym (same test))) in
    cap_at-level line train top xs ys bounds i zones

-- and the same caps
pub caps_of-same : (line train top : ℕ) (xs ys : List Zone) (bounds : List Bound) → AreSame xs ys → caps_of line train top xs bounds ≡ caps_of line train top ys bounds
caps_of-same line train top xs ys bounds same = λ t. map (λ i. cap_at-same line train top xs ys bounds i same t) (range_with_len 0 (line + 1))

-- agreeing goes both ways
pub AgreeOutside-sym : (b c : List ℕ) (from to : ℕ) → AgreeOutside b c from to → AgreeOutside c b from to
AgreeOutside-sym b c from to agree = record { same_points = sym agree.same_points; agrees = λ i h. sym (agree.agrees i h) }

-- a zone doesn't bind before its start, nor past where the tail has left it
binds_at-apart : (line train i : ℕ) (z : Zone) → (i < z.from) ⊎ (min line (z.to + train) < i) → binds_at line train i z ≡ false
binds_at-apart line train i z (inl before) = and_left _ _ (lt-leb z.from i before)
binds_at-apart line train i z (inr past) = and_right _ _ (lt-leb i (min line (z.to + train)) past)

length-caps_of : (line train top : ℕ) (zs : List Zone) (bounds : List Bound) → length (caps_of line train top zs bounds) ≡ line + 1
length-caps_of line train top zs bounds = length-map-range_with_len (cap_at line train top zs bounds) 0 (line + 1)

slice_index-caps_of : (line train top : ℕ) (zs : List Zone) (bounds : List Bound) (i : ℕ) → i < line + 1 → slice_index (caps_of line train top zs bounds) i ≡ cap_at line train top zs bounds i
slice_index-caps_of line train top zs bounds i l = get_or-map-range_with_len (cap_at line train top zs bounds) 0 (line + 1) i i 0 l (omega arith)

-- one zone more changes caps only where it binds
pub caps_of-agree : (line train top : ℕ) (xs ys : List Zone) (z : Zone) (bounds : List Bound) → AreSame xs (z ∷ ys)
    → AgreeOutside (caps_of line train top xs bounds) (caps_of line train top ys bounds) z.from (min line (z.to + train))
caps_of-agree line train top xs ys z bounds same =
    let long = length-caps_of line train top xs bounds in
    let other = length-caps_of line train top ys bounds in
    record {
      same_points = long ∙ sym other;
      agrees = λ i apart. elim (cases_lt i (line + 1)) [
        | inl on ↦
            let level : zoned_at line train top ys i ≡ zoned_at line train top (z ∷ ys) i = rw (binds_at-apart line train i z apart) refl in
            slice_index-caps_of line train top xs bounds i on ∙ cap_at-same line train top xs (z ∷ ys) bounds i same ∙ sym (cap_at-level line train top ys (z ∷ ys) bounds i level)
            ∙ sym (slice_index-caps_of line train top ys bounds i on)
        | inr off ↦
            get_or_past (caps_of line train top xs bounds) i 0 (omega (arith, long)) ∙ sym (get_or_past (caps_of line train top ys bounds) i 0 (omega (arith, other)))
      ];
    }
