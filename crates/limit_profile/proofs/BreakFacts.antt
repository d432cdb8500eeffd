-- The breaks below a point: what a piece adds to them, and how the number of a point is found by them.
use Rattle.std.proofs.Common.{◌≡◌, ◌≤◌, ◌<◌, ◌+◌, ◌-◌, ◌⊎◌, inl, inr, ℕ, suc, zero, List, [], ◌∷◌, ◌++◌, true, false, length, get_or, arith, refl, sym, ap, ◌∙◌}
use Rattle.std.proofs.lemmas.Bool.{cases_Bool, true≢false, cases_eq, eq-eqb, ne_eqb}
use Rattle.std.proofs.lemmas.List.{append-nil}
use Rattle.limit_profile.specs.Breaks.{AreBegun, begins, breaks_below}
use Rattle.limit_profile.specs.declared.breaks.Break.{Break}
use Rattle.limit_profile.specs.declared.pieces.Piece.{Piece}
use Rattle.limit_profile.specs.Pieces.{IsPiece}

-- no break stands at a point with the number of the point before
pub begins-not : (f : ℕ → ℕ) (point : ℕ) → 0 < point → f (point - 1) ≡ f point → begins f point ≡ false
begins-not f (suc point) l e = rw (ne_eqb (suc point) 0 (λ z. omega arith), eq-eqb (f (suc point - 1)) (f (suc point)) e) refl
begins-not f zero l e = absurd (omega arith)

-- and one at a point with another
begins-there : (f : ℕ → ℕ) (point : ℕ) → (0 < point → f (point - 1) ≡ f point → ⊥) → begins f point ≡ true
begins-there f zero n = refl
begins-there f (suc point) n = rw (ne_eqb (suc point) 0 (λ z. omega arith), ne_eqb (f (suc point - 1)) (f (suc point)) (n (omega arith))) refl

pub begins-same : (f : ℕ → ℕ) (point : ℕ) → 0 < point → begins f point ≡ false → f (point - 1) ≡ f point
begins-same f point l e = elim (cases_eq (f (point - 1)) (f point)) [
  | inl same ↦ same
  | inr n ↦ absurd (true≢false (sym (begins-there f point (λ k same. n same)) ∙ e))
]

not_more : (f : ℕ → ℕ) (point : ℕ) → begins f point ≡ false → breaks_below f (suc point) ≡ breaks_below f point
not_more f point e = rw e (append-nil (breaks_below f point))

one_more : (f : ℕ → ℕ) (point : ℕ) → begins f point ≡ true → breaks_below f (suc point) ≡ breaks_below f point ++ record { at = point; most = f point } ∷ []
one_more f point e = rw e refl

-- where the function keeps the number that it had, no break is added
pub breaks_below-kept : (f : ℕ → ℕ) (from most k until : ℕ) → until ≡ from + k → 0 < from → f (from - 1) ≡ most → ((i : ℕ) → from ≤ i → i < until → f i ≡ most) → breaks_below f until ≡ breaks_below f from
breaks_below-kept f from most zero until e l h same = let done : until ≡ from = omega arith in rw done refl
breaks_below-kept f from most (suc k) until e l h same =
    let next : until ≡ suc (from + k) = omega arith in
    let before : f (from + k - 1) ≡ most = elim (cases_eq k 0) [
      | inl z ↦ let at : from + k - 1 ≡ from - 1 = omega arith in rw at h
      | inr n ↦ same (from + k - 1) (omega arith) (omega arith)
    ] in
    let none = not_more f (from + k) (begins-not f (from + k) (omega arith) (before ∙ sym (same (from + k) (omega arith) (omega arith)))) in
    rw next (none ∙ breaks_below-kept f from most k (from + k) refl l h (λ i a b. same i a (omega arith)))

-- where another number begins, one is
pub breaks_below-begun : (f : ℕ → ℕ) (from most until : ℕ) → from < until → (0 < from → f (from - 1) ≡ most → ⊥) → ((i : ℕ) → from ≤ i → i < until → f i ≡ most) → breaks_below f until ≡ breaks_below f from ++ record { at = from; most = most } ∷ []
breaks_below-begun f from most until l n same =
    let first : f from ≡ most = same from (omega arith) l in
    let one = one_more f from (begins-there f from (λ k e. n k (e ∙ first))) in
    let back : suc from - 1 ≡ from = omega arith in
    let kept = breaks_below-kept f (suc from) most (until - suc from) until (omega arith) (omega arith) (rw back first) (λ i a b. same i (omega arith) b) in
    kept ∙ one ∙ ap (λ m. breaks_below f from ++ record { at = from; most = m } ∷ []) first

-- so a piece adds one break or none, and ends with its number
pub piece-kept : (f : ℕ → ℕ) (from most : ℕ) (piece : Piece) → IsPiece f from piece → from < piece.until → 0 < from → f (from - 1) ≡ most → most ≡ piece.most
    → (f (piece.until - 1) ≡ most) × (breaks_below f piece.until ≡ breaks_below f from)
piece-kept f from most piece is l h before e =
    (is.same (piece.until - 1) (omega arith) (omega arith) ∙ sym e, breaks_below-kept f from most (piece.until - from) piece.until (omega arith) h before (λ i a b. is.same i a b ∙ sym e))

pub piece-begun : (f : ℕ → ℕ) (from most : ℕ) (piece : Piece) → IsPiece f from piece → from < piece.until → (0 < from → f (from - 1) ≡ most) → (0 < from → most ≡ piece.most → ⊥)
    → (f (piece.until - 1) ≡ piece.most) × (breaks_below f piece.until ≡ breaks_below f from ++ record { at = from; most = piece.most } ∷ [])
piece-begun f from most piece is l before n =
    (is.same (piece.until - 1) (omega arith) (omega arith), breaks_below-begun f from piece.most piece.until l (λ k e. n k (sym (before k) ∙ e)) is.same)

begins-other : (f : ℕ → ℕ) (point : ℕ) → 0 < point → begins f point ≡ true → f (point - 1) ≡ f point → ⊥
begins-other f point l e same = true≢false (sym e ∙ begins-not f point l same)

-- a break and the next: the function has the number of the first up to the second, which has another
pub record IsFollowed (f : ℕ → ℕ) (b c : Break) : Type 0 where
  pub rises : b.at < c.at
  pub other : b.most ≡ c.most → ⊥
  pub holds : (i : ℕ) → b.at ≤ i → i < c.at → f i ≡ b.most

-- so break after break, and from the last one up to a point
abbrev pub HoldsFrom : (ℕ → ℕ) → Break → List Break → ℕ → Type 0
HoldsFrom f b [] to = (b.at < to) × ((i : ℕ) → b.at ≤ i → i < to → f i ≡ b.most)
HoldsFrom f b (c ∷ bs) to = IsFollowed f b c × HoldsFrom f c bs to

HoldsFrom-begun : (f : ℕ → ℕ) (b : Break) (bs : List Break) (to : ℕ) → (f (to - 1) ≡ f to → ⊥) → HoldsFrom f b bs to → HoldsFrom f b (bs ++ record { at = to; most = f to } ∷ []) (suc to)
HoldsFrom-begun f b [] to n h = (
  record { rises = h.0; other = λ e. n (h.1 (to - 1) (omega (arith, h.0)) (omega (arith, h.0)) ∙ e); holds = h.1 },
  (omega arith, λ i l m. let e : i ≡ to = omega arith in rw e refl),
)
HoldsFrom-begun f b (c ∷ bs) to n h = (h.0, HoldsFrom-begun f c bs to n h.1)

HoldsFrom-kept : (f : ℕ → ℕ) (b : Break) (bs : List Break) (to : ℕ) → f (to - 1) ≡ f to → HoldsFrom f b bs to → HoldsFrom f b bs (suc to)
HoldsFrom-kept f b [] to e h = (
  omega (arith, h.0),
  λ i l m. elim (cases_eq i to) [
    | inl n ↦ rw n (sym e ∙ h.1 (to - 1) (omega (arith, h.0)) (omega (arith, h.0)))
    | inr n ↦ h.1 i l (omega arith)
  ],
)
HoldsFrom-kept f b (c ∷ bs) to e h = (h.0, HoldsFrom-kept f c bs to e h.1)

-- each break but the last is followed, and all lie below the point
HoldsFrom-followed : (f : ℕ → ℕ) (b : Break) (bs : List Break) (to k : ℕ) (d : Break) → HoldsFrom f b bs to → k < length bs → IsFollowed f (get_or (b ∷ bs) k d) (get_or (b ∷ bs) (suc k) d)
HoldsFrom-followed f b [] to k d h l = absurd (omega arith)
HoldsFrom-followed f b (c ∷ bs) to zero d h l = h.0
HoldsFrom-followed f b (c ∷ bs) to (suc k) d h l = HoldsFrom-followed f c bs to k d h.1 (omega arith)

HoldsFrom-below : (f : ℕ → ℕ) (b : Break) (bs : List Break) (to k : ℕ) (d : Break) → HoldsFrom f b bs to → k ≤ length bs → (get_or (b ∷ bs) k d).at < to
HoldsFrom-below f b [] to zero d h l = h.0
HoldsFrom-below f b [] to (suc k) d h l = absurd (omega arith)
HoldsFrom-below f b (c ∷ bs) to zero d h l = omega (arith, h.0.rises, HoldsFrom-below f c bs to 0 d h.1 (omega arith))
HoldsFrom-below f b (c ∷ bs) to (suc k) d h l = HoldsFrom-below f c bs to k d h.1 (omega arith)

-- the breaks below a point begin at 0, and the function has their numbers
pub record Broken (f : ℕ → ℕ) (to : ℕ) : Type 0 where
  pub rest : List Break
  pub breaks : breaks_below f to ≡ record { at = 0; most = f 0 } ∷ rest
  pub holds : HoldsFrom f (record { at = 0; most = f 0 }) rest to

broken_more : (f : ℕ → ℕ) (point : ℕ) → 0 < point → Broken f point → (begins f point ≡ true) ⊎ (begins f point ≡ false) → Broken f (suc point)
broken_more f point l before (inl e) = record {
  rest = before.rest ++ record { at = point; most = f point } ∷ [];
  breaks = one_more f point e ∙ ap (λ bs. bs ++ record { at = point; most = f point } ∷ []) before.breaks;
  holds = HoldsFrom-begun f _ before.rest point (begins-other f point l e) before.holds;
}
broken_more f point l before (inr e) = record {
  rest = before.rest;
  breaks = not_more f point e ∙ before.breaks;
  holds = HoldsFrom-kept f _ before.rest point (begins-same f point l e) before.holds;
}

pub breaks_below-broken : (f : ℕ → ℕ) (point : ℕ) → Broken f (suc point)
breaks_below-broken f zero = record {
  rest = [];
  breaks = refl;
  holds = (omega arith, λ i l m. let e : i ≡ 0 = omega arith in rw e refl);
}
breaks_below-broken f (suc point) = broken_more f (suc point) (omega arith) (breaks_below-broken f point) (cases_Bool (begins f (suc point)))

-- the number of a point is that of the last break up to it
pub HoldsFrom-at : (f : ℕ → ℕ) (b : Break) (bs : List Break) (to k i : ℕ) (d : Break) → HoldsFrom f b bs to → k ≤ length bs → (get_or (b ∷ bs) k d).at ≤ i → (k < length bs → i < (get_or (b ∷ bs) (suc k) d).at) → (k ≡ length bs → i < to)
    → f i ≡ (get_or (b ∷ bs) k d).most
HoldsFrom-at f b [] to zero i d h l at next last = h.1 i at (last refl)
HoldsFrom-at f b [] to (suc k) i d h l at next last = absurd (omega arith)
HoldsFrom-at f b (c ∷ bs) to zero i d h l at next last = h.0.holds i at (next (omega arith))
HoldsFrom-at f b (c ∷ bs) to (suc k) i d h l at next last = HoldsFrom-at f c bs to k i d h.1 (omega arith) at (λ m. next (omega arith)) (λ e. last (omega arith))

-- so in a list of breaks
pub Broken-at : (f : ℕ → ℕ) (to : ℕ) (breaks : List Break) (k i : ℕ) (d : Break) → breaks ≡ breaks_below f to → Broken f to → k < length breaks → (get_or breaks k d).at ≤ i
    → (k + 1 < length breaks → i < (get_or breaks (k + 1) d).at) → (length breaks ≤ k + 1 → i < to) → f i ≡ (get_or breaks k d).most
Broken-at f to breaks k i d e broken l at next last =
    let same : breaks ≡ record { at = 0; most = f 0 } ∷ broken.rest = e ∙ broken.breaks in
    let more : k + 1 ≡ suc k = omega arith in
    let nexts : suc k < length breaks → i < (get_or breaks (suc k) d).at = rw more at next in
    let long : length breaks ≡ suc (length broken.rest) = ap (λ (bs : List Break). length bs) same in
    rw same (HoldsFrom-at f _ broken.rest to k i d broken.holds (omega arith) (rw same at at) (λ m. rw same at (nexts (omega arith))) (λ m. last (omega arith)))

breaks_below-whole : (f : ℕ → ℕ) (end : ℕ) → 0 < end → Broken f end
breaks_below-whole f zero l = absurd (omega arith)
breaks_below-whole f (suc last) l = breaks_below-broken f last

-- breaks below a point are some, the first is at 0, and each holds up to the next
pub breaks_below-starts : (f : ℕ → ℕ) (end : ℕ) (breaks : List Break) → 0 < end → breaks ≡ breaks_below f end → AreBegun breaks
breaks_below-starts f end breaks l e = let broken = breaks_below-whole f end l in rw (e ∙ broken.breaks) (record { some = omega arith; first = λ d. refl })

pub breaks_below-at : (f : ℕ → ℕ) (end : ℕ) (breaks : List Break) (k i : ℕ) (d : Break) → 0 < end → breaks ≡ breaks_below f end → k < length breaks → (get_or breaks k d).at ≤ i
    → (k + 1 < length breaks → i < (get_or breaks (k + 1) d).at) → (length breaks ≤ k + 1 → i < end) → f i ≡ (get_or breaks k d).most
breaks_below-at f end breaks k i d some e l at next last = Broken-at f end breaks k i d e (breaks_below-whole f end some) l at next last

pub breaks_below-followed : (f : ℕ → ℕ) (end : ℕ) (breaks : List Break) (k : ℕ) (d : Break) → 0 < end → breaks ≡ breaks_below f end → k + 1 < length breaks → IsFollowed f (get_or breaks k d) (get_or breaks (k + 1) d)
breaks_below-followed f end breaks k d some e l =
    let broken = breaks_below-whole f end some in
    let same : breaks ≡ record { at = 0; most = f 0 } ∷ broken.rest = e ∙ broken.breaks in
    let long : length breaks ≡ suc (length broken.rest) = ap (λ (bs : List Break). length bs) same in
    let more : k + 1 ≡ suc k = omega arith in
    rw (more, same) (HoldsFrom-followed f _ broken.rest end k d broken.holds (omega arith))

pub breaks_below-below : (f : ℕ → ℕ) (end : ℕ) (breaks : List Break) (k : ℕ) (d : Break) → 0 < end → breaks ≡ breaks_below f end → k < length breaks → (get_or breaks k d).at < end
breaks_below-below f end breaks k d some e l =
    let broken = breaks_below-whole f end some in
    let same : breaks ≡ record { at = 0; most = f 0 } ∷ broken.rest = e ∙ broken.breaks in
    let long : length breaks ≡ suc (length broken.rest) = ap (λ (bs : List Break). length bs) same in
    rw same (HoldsFrom-below f _ broken.rest end k d broken.holds (omega arith))
