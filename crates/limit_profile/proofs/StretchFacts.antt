-- The breaks of a function that is another than before in a stretch of points.
use Rattle.std.proofs.Common.{◌≡◌, ◌≤◌, ◌<◌, ◌+◌, ◌-◌, inl, inr, ℕ, suc, zero, List, [], ◌∷◌, ◌++◌, Bool, true, false, cond, All, length, get_or, take, drop, arith, refl, sym, ap, append_assoc, length-drop, min, ◌∙◌}
use Rattle.std.proofs.lemmas.Bool.{cases_eq, cases_lt}
use Rattle.std.proofs.lemmas.List.{append-nil, append_cancel_left, get_or_append_left, get_or-append_right, length-append, length-take-le, take-append-drop}
use Rattle.std.proofs.lemmas.List.Elements.{All-append}
use Rattle.std.proofs.Math.Seq.{take-append_seam}
use Rattle.limit_profile.specs.Breaks.{begins, breaks_below}
use Rattle.limit_profile.specs.declared.breaks.Break.{Break}
use Rattle.limit_profile.specs.declared.changes.Change.{Change}
use Rattle.limit_profile.specs.declared.pieces.Course.{Course}
use Rattle.limit_profile.specs.Changes.{ComesFrom}
use Rattle.unit_rules.specs.Zone.{LiesOn}
use Rattle.unit_rules.specs.declared.Zone.{Zone}
use Rattle.limit_profile.proofs.CountFacts.{binds-before, binds-past, count-more}
use Rattle.limit_profile.proofs.BreakFacts.{breaks_below-below}

-- the breaks from a point on, for so many points
abbrev pub breaks_past : (ℕ → ℕ) → ℕ → ℕ → List Break
breaks_past f from zero = []
breaks_past f from (suc k) = breaks_past f from k ++ cond (begins f (from + k)) (record { at = from + k; most = f (from + k) } ∷ []) []

breaks_below-split : (f : ℕ → ℕ) (from k to : ℕ) → to ≡ from + k → breaks_below f to ≡ breaks_below f from ++ breaks_past f from k
breaks_below-split f from zero to e = let same : to ≡ from = omega arith in rw same (sym (append-nil (breaks_below f from)))
breaks_below-split f from (suc k) to e =
    let next : to ≡ suc (from + k) = omega arith in
    let last = cond (begins f (from + k)) (record { at = from + k; most = f (from + k) } ∷ []) [] in
    rw next (ap (λ bs. bs ++ last) (breaks_below-split f from k (from + k) refl) ∙ append_assoc (breaks_below f from) (breaks_past f from k) last)

-- where two functions are the same at a point and before it, both begin anew there, or neither
begins-alike : (f g : ℕ → ℕ) (point : ℕ) → (0 < point → f (point - 1) ≡ g (point - 1)) → f point ≡ g point → begins f point ≡ begins g point
begins-alike f g zero before here = refl
begins-alike f g (suc point) before here = rw (before (omega arith), here) refl

pub breaks_below-alike : (f g : ℕ → ℕ) (to : ℕ) → ((i : ℕ) → i < to → f i ≡ g i) → breaks_below f to ≡ breaks_below g to
breaks_below-alike f g zero same = refl
breaks_below-alike f g (suc to) same =
    rw (breaks_below-alike f g to (λ i l. same i (omega arith)), begins-alike f g to (λ l. same (to - 1) (omega arith)) (same to (omega arith)), same to (omega arith)) refl

breaks_past-alike : (f g : ℕ → ℕ) (from k : ℕ) → 0 < from → ((i : ℕ) → from ≤ i + 1 → f i ≡ g i) → breaks_past f from k ≡ breaks_past g from k
breaks_past-alike f g from zero l same = refl
breaks_past-alike f g from (suc k) l same =
    rw (breaks_past-alike f g from k l same, begins-alike f g (from + k) (λ m. same (from + k - 1) (omega arith)) (same (from + k) (omega arith)), same (from + k) (omega arith)) refl

-- the breaks from a point on stand there or later
All-one : (P : Break → Type 0) (x : Break) (b : Bool) → P x → All P (cond b (x ∷ []) [])
All-one P x true h = λ i d l. let e : i ≡ 0 = omega arith in rw e h
All-one P x false h = λ i d l. absurd (omega arith)

breaks_past-at : (f : ℕ → ℕ) (from k : ℕ) → All (λ (b : Break). from ≤ b.at) (breaks_past f from k)
breaks_past-at f from zero = λ i d l. absurd (omega arith)
breaks_past-at f from (suc k) = All-append (λ (b : Break). from ≤ b.at) (breaks_past f from k) _ (breaks_past-at f from k) (All-one (λ (b : Break). from ≤ b.at) (record { at = from + k; most = f (from + k) }) (begins f (from + k)) (omega arith))

-- the breaks up to the last one that stands at most at a point are those below the next point
pub breaks_below-front : (f : ℕ → ℕ) (to point next : ℕ) (breaks : List Break) (index : ℕ) (d : Break) → breaks ≡ breaks_below f to → next ≡ point + 1 → next ≤ to → index < length breaks → (get_or breaks index d).at ≤ point
    → (index + 1 < length breaks → point < (get_or breaks (index + 1) d).at) → take (index + 1) breaks ≡ breaks_below f next
breaks_below-front f to point next breaks index d e n l bound last after =
    let front = breaks_below f next in
    let back = breaks_past f next (to - next) in
    let parts : breaks ≡ front ++ back = e ∙ breaks_below-split f next (to - next) to (omega arith) in
    let long : length breaks ≡ length front + length back = ap (λ (bs : List Break). length bs) parts ∙ length-append front back in
    let past : (k : ℕ) → length front ≤ k → k < length breaks → point < (get_or breaks k d).at = λ k m o.
    let at : get_or breaks k d ≡ get_or back (k - length front) d = rw parts (get_or-append_right front back (length front) k d refl m) in
    rw at (omega (arith, breaks_past-at f next (to - next) (k - length front) d (omega arith))) in
    let within : (k : ℕ) → k < length front → (get_or breaks k d).at ≤ point = λ k m.
    let at : get_or breaks k d ≡ get_or front k d = rw parts (get_or_append_left front back d k m) in
    rw at (omega (arith, breaks_below-below f next front k d (omega arith) refl m)) in
    let count : index + 1 ≡ length front = elim (cases_lt index (length front)) [
      | inl m ↦ elim (cases_lt (index + 1) (length front)) [
        | inl n ↦ absurd (omega (arith, within (index + 1) n, after (omega arith)))
        | inr n ↦ omega arith
      ]
      | inr m ↦ absurd (omega (arith, past index m bound))
    ] in
    rw (count, parts) (take-append_seam front back)

-- breaks of which those of a stretch, and of the point after it, are made anew
pub breaks_below-spliced : (f g : ℕ → ℕ) (from until to : ℕ) (breaks list : List Break) (first past : ℕ) → breaks ≡ breaks_below f to → 0 < until → until ≤ to
    → take first breaks ≡ breaks_below f from → take past breaks ≡ breaks_below f until → ((i : ℕ) → i < from → f i ≡ g i) → (until < to → (i : ℕ) → until ≤ i + 1 → f i ≡ g i)
    → breaks_below g from ++ list ≡ breaks_below g until → take first breaks ++ (list ++ drop past breaks) ≡ breaks_below g to
breaks_below-spliced f g from until to breaks list first past e some l front back before after middle =
    let k = to - until in
    let ends : to ≡ until + k = omega arith in
    let tail : drop past breaks ≡ breaks_past f until k = append_cancel_left (breaks_below f until) (drop past breaks) (breaks_past f until k)
    (ap (λ (bs : List Break). bs ++ drop past breaks) (sym back) ∙ take-append-drop past breaks ∙ e ∙ breaks_below-split f until k to ends) in
    let tails : breaks_past f until k ≡ breaks_past g until k = elim (cases_eq until to) [
      | inl same ↦ let none : k ≡ 0 = omega arith in rw none refl
      | inr n ↦ breaks_past-alike f g until k some (after (omega arith))
    ] in
    ap (λ (bs : List Break). bs ++ (list ++ drop past breaks)) (front ∙ breaks_below-alike f g from before) ∙ sym (append_assoc (breaks_below g from) list (drop past breaks))
    ∙ ap (λ (bs : List Break). bs ++ drop past breaks) middle ∙ ap (λ (bs : List Break). breaks_below g until ++ bs) (tail ∙ tails) ∙ sym (breaks_below-split g until k to ends)

-- so are the breaks before a zone was added or removed, where it binds
pub breaks_below-changed : (c : Course) (change : Change) (zone : Zone) (zones : List Zone) (f g : ℕ → ℕ) (until : ℕ) (breaks list : List Break) (first past : ℕ) → LiesOn c.length zone → until ≡ min (min c.length (zone.to + c.train) + 1) c.length + 1
    → ComesFrom c change zone zones f g → breaks ≡ breaks_below f (c.length + 1) → take first breaks ≡ breaks_below f zone.from → take past breaks ≡ breaks_below f until → breaks_below g zone.from ++ list ≡ breaks_below g until
    → take first breaks ++ (list ++ drop past breaks) ≡ breaks_below g (c.length + 1)
breaks_below-changed c change zone zones f g until breaks list first past lies ends come e front back middle =
    let rises = lies.rises in
    breaks_below-spliced f g zone.from until (c.length + 1) breaks list first past e (omega arith) (omega arith) front back
    (λ i l. sym (come.outside i (binds-before c.length c.train i zone l))) (λ m i l. sym (come.outside i (binds-past c.length c.train i zone (omega (arith, lies.ends)) (omega arith)))) middle

pub length-spliced : (breaks list : List Break) (first past : ℕ) → first ≤ length breaks → length (take first breaks ++ (list ++ drop past breaks)) ≡ first + length list + (length breaks - past)
length-spliced breaks list first past l =
    omega (arith, length-append (take first breaks) (list ++ drop past breaks), length-append list (drop past breaks), length-take-le first breaks l, length-drop past breaks)

-- those below a later point are no fewer
pub length-front : (f : ℕ → ℕ) (breaks : List Break) (first past from until : ℕ) → first ≤ length breaks → past ≤ length breaks → take first breaks ≡ breaks_below f from → take past breaks ≡ breaks_below f until → from ≤ until → first ≤ past
length-front f breaks first past from until l m front back n =
    let fewer : length (take first breaks) ≡ length (breaks_below f from) = ap (λ (bs : List Break). length bs) front in
    let more : length (take past breaks) ≡ length (breaks_below f until) = ap (λ (bs : List Break). length bs) back in
    let end : from + (until - from) ≡ until = omega arith in
    omega (arith, fewer, more, length-take-le first breaks l, length-take-le past breaks m, rw end at (count-more f from (until - from)))
