-- How many breaks stand below a point.
use Rattle.std.proofs.Common.{◌≡◌, ◌≤◌, ◌<◌, ◌+◌, ◌*◌, ◌-◌, inl, inr, ℕ, suc, zero, Bool, true, false, cond, List, [], ◌∷◌, min, length, All, arith, refl, ap, ◌∙◌}
use Rattle.std.proofs.lemmas.Bool.{cases_eq, le-leb, lt-leb}
use Rattle.std.proofs.lemmas.List.{length-append}
use Rattle.unit_rules.specs.Zone.{LiesOn}
use Rattle.unit_rules.specs.declared.Zone.{Zone}
use Rattle.run_rules.specs.Caps.{binds_at}
use Rattle.run_rules.specs.Speeds.{squared}
use Rattle.limit_profile.specs.Breaks.{begins, breaks_below, zoned_at}
use Rattle.limit_profile.specs.declared.breaks.Break.{Break}
use Rattle.limit_profile.proofs.BreakFacts.{begins-not, begins-same, breaks_below-kept}
use Rattle.limit_profile.proofs.PieceFacts.{one_at_most}
use Rattle.limit_profile.proofs.ZoneFacts.{zoned_at-append, zoned_at-binds}

abbrev pub count : (ℕ → ℕ) → ℕ → ℕ
count f point = length (breaks_below f point)

length-one : (b : Bool) (x : Break) → length (cond b (x ∷ []) []) ≡ cond b 1 0
length-one true x = refl
length-one false x = refl

count-suc : (f : ℕ → ℕ) (point : ℕ) → count f (suc point) ≡ count f point + cond (begins f point) 1 0
count-suc f point = length-append (breaks_below f point) _ ∙ ap (λ (n : ℕ). count f point + n) (length-one (begins f point) (record { at = point; most = f point }))

-- the lesser of two functions begins anew only where one of them does, and all three at 0
cond-meet : (a b c : Bool) → (a ≡ false → b ≡ false → c ≡ false) → cond c 1 0 ≤ cond a 1 0 + cond b 1 0
cond-meet true b c h = omega (arith, one_at_most c)
cond-meet false true c h = omega (arith, one_at_most c)
cond-meet false false c h = rw (h refl refl) (omega arith)

begins-meet : (f g h : ℕ → ℕ) (point : ℕ) → ((i : ℕ) → h i ≡ min (f i) (g i)) → 0 < point → begins f point ≡ false → begins g point ≡ false → begins h point ≡ false
begins-meet f g h point is l a b = begins-not h point l (rw (is (point - 1), is point, begins-same f point l a, begins-same g point l b) refl)

pub count-meet : (f g h : ℕ → ℕ) (point : ℕ) → ((i : ℕ) → h i ≡ min (f i) (g i)) → count h (suc point) + 1 ≤ count f (suc point) + count g (suc point)
count-meet f g h zero is = omega arith
count-meet f g h (suc point) is =
    let one = cond-meet (begins f (suc point)) (begins g (suc point)) (begins h (suc point)) (begins-meet f g h (suc point) is (omega arith)) in
    omega (arith, count-meet f g h point is, one, count-suc f (suc point), count-suc g (suc point), count-suc h (suc point))

-- no fewer stand below a later point
pub count-more : (f : ℕ → ℕ) (point k : ℕ) → count f point ≤ count f (point + k)
count-more f point zero = let e : point + 0 ≡ point = omega arith in rw e (omega arith)
count-more f point (suc k) = let e : point + suc k ≡ suc (point + k) = omega arith in rw e (omega (arith, count-more f point k, count-suc f (point + k)))

-- a stretch with one number has one at most
count-stretch : (f : ℕ → ℕ) (from most until : ℕ) → from < until → ((i : ℕ) → from ≤ i → i < until → f i ≡ most) → count f until ≤ count f from + 1
count-stretch f from most until l same =
    let back : suc from - 1 ≡ from = omega arith in
    let first : f (suc from - 1) ≡ most = rw back (same from (omega arith) l) in
    let kept = breaks_below-kept f (suc from) most (until - suc from) until (omega arith) (omega arith) first (λ i a b. same i (omega arith) b) in
    rw kept (omega (arith, count-suc f from, one_at_most (begins f from)))

count-piece : (f : ℕ → ℕ) (from most until : ℕ) → from ≤ until → ((i : ℕ) → from ≤ i → i < until → f i ≡ most) → count f until ≤ count f from + 1
count-piece f from most until l same = elim (cases_eq from until) [
  | inl e ↦ rw e (omega arith)
  | inr n ↦ count-stretch f from most until (omega arith) same
]

-- a zone binds from its start up to where the tail has left it, or the line ends
pub binds-before : (line train i : ℕ) (z : Zone) → i < z.from → binds_at line train i z ≡ false
binds-before line train i z h = rw (lt-leb z.from i h) refl

binds-within : (line train i : ℕ) (z : Zone) → z.from ≤ i → i ≤ min line (z.to + train) → binds_at line train i z ≡ true
binds-within line train i z h l = rw (le-leb z.from i h, le-leb i (min line (z.to + train)) l) refl

pub binds-past : (line train i : ℕ) (z : Zone) → z.from ≤ i → min line (z.to + train) < i → binds_at line train i z ≡ false
binds-past line train i z h l = rw (le-leb z.from i h, lt-leb i (min line (z.to + train)) l) refl

pub binds-there : (line train i : ℕ) (z : Zone) → binds_at line train i z ≡ true → (z.from ≤ i) × (i ≤ min line (z.to + train))
binds-there line train i z h = grind arith

-- one zone makes three at most: at 0, where it begins to bind, and where it has ended
count-one : (line train top point : ℕ) (z : Zone) → LiesOn line z → count (zoned_at line train top (z ∷ [])) point ≤ 3
count-one line train top point z lies =
    let f = zoned_at line train top (z ∷ []) in
    let until : ℕ = min line (z.to + train) + 1 in
    let rises = lies.rises in
    let ends = lies.ends in
    let before = count-piece f 0 (squared top) z.from (omega arith) (λ i a b. zoned_at-binds line train top z i false (binds-before line train i z b)) in
    let within = count-piece f z.from (min (squared z.kmh) (squared top)) until (omega arith) (λ i a b. zoned_at-binds line train top z i true (binds-within line train i z a (omega arith))) in
    let past = count-piece f until (squared top) (until + point) (omega arith) (λ i a b. zoned_at-binds line train top z i false (binds-past line train i z (omega arith) (omega arith))) in
    let e : until + point ≡ point + until = omega arith in
    omega (arith, before, within, rw e at past, count-more f point until)

-- zones make two each at most, beside the one at 0
pub count-zones : (line train top : ℕ) (zones : List Zone) (point : ℕ) → All (LiesOn line) zones → count (zoned_at line train top zones) point ≤ 2 * length zones + 1
count-zones line train top [] point lie = omega (arith, count-piece (zoned_at line train top []) 0 (squared top) point (omega arith) (λ i a b. refl))
count-zones line train top (z ∷ zones) zero lie = omega arith
count-zones line train top (z ∷ zones) (suc point) lie =
    let one = count-one line train top (suc point) z (lie 0 z (omega arith)) in
    let rest = count-zones line train top zones (suc point) (λ k d l. lie (suc k) d (omega arith)) in
    let meet = count-meet (zoned_at line train top (z ∷ [])) (zoned_at line train top zones) (zoned_at line train top (z ∷ zones)) point (λ i. zoned_at-append line train top (z ∷ []) zones i) in
    omega (arith, one, rest, meet)
