-- The lines of bytes that come in pieces.
use Rattle.std.proofs.Common.{◌≡◌, ◌<◌, ◌+◌, ◌-◌, ℕ, Bool, List, [], ◌∷◌, ◌++◌, length, map, take, get_or, refl, sym, ap, ◌∙◌, arith, inl, inr, length-append}
use Rattle.std.specs.List.{onto_first, slice_split}
use Rattle.std.specs.Str.Lines.{strip_carriage_return}
use Rattle.std.proofs.lemmas.Bool.{cases_Bool}
use Rattle.std.proofs.lemmas.List.{append-nil, map-append, take_all, take_more}
use Rattle.std.proofs.lemmas.List.Splits.{length-slice_split, slice_split-cons_no, slice_split-cons_yes}
use Rattle.std.proofs.Math.Seq.{take-append-add}
use Rattle.restrictions.specs.Edits.{ended, is_line_feed, lines_of}
use Rattle.session_lines.specs.Lines.{but_last, whole_lines}
use Rattle.session_lines.specs.Feeding.{begin_with}

-- the parts of some bytes, and those of what follows, the first of which had begun
abbrev join : List (List ℕ) → List (List ℕ) → List (List ℕ)
join [] qs = qs
join (p ∷ []) qs = begin_with p qs
join (p ∷ next ∷ ps) qs = p ∷ join (next ∷ ps) qs

join-cons : (p : List ℕ) (ps qs : List (List ℕ)) → 0 < length ps → join (p ∷ ps) qs ≡ p ∷ join ps qs
join-cons p [] qs some = absurd (omega arith)
join-cons p (next ∷ ps) qs some = refl

onto_join : (x : ℕ) (ps qs : List (List ℕ)) → 0 < length ps → onto_first x (join ps qs) ≡ join (onto_first x ps) qs
onto_join x [] qs some = absurd (omega arith)
onto_join x (p ∷ []) [] some = refl
onto_join x (p ∷ []) (q ∷ qs) some = refl
onto_join x (p ∷ next ∷ ps) qs some = refl

pub begin_none : (qs : List (List ℕ)) → 0 < length qs → begin_with [] qs ≡ qs
begin_none [] some = absurd (omega arith)
begin_none (q ∷ qs) some = refl

pub some_part : (p : ℕ → Bool) (xs : List ℕ) → 0 < length (slice_split p xs)
some_part p xs = omega (arith, length-slice_split p xs)

slice_split-append : (p : ℕ → Bool) (a b : List ℕ) → slice_split p (a ++ b) ≡ join (slice_split p a) (slice_split p b)
slice_split-append p [] b = sym (begin_none (slice_split p b) (some_part p b))
slice_split-append p (x ∷ a) b =
    elim (cases_Bool (p x)) [
      | inl at ↦ slice_split-cons_yes p x (a ++ b) at ∙ ap (λ (t : List (List ℕ)). [] ∷ t) (slice_split-append p a b)
          ∙ sym (join-cons [] (slice_split p a) (slice_split p b) (some_part p a)) ∙ ap (λ (t : List (List ℕ)). join t (slice_split p b)) (sym (slice_split-cons_yes p x a at))
      | inr other ↦ slice_split-cons_no p x (a ++ b) other ∙ ap (onto_first x) (slice_split-append p a b)
          ∙ onto_join x (slice_split p a) (slice_split p b) (some_part p a) ∙ ap (λ (t : List (List ℕ)). join t (slice_split p b)) (sym (slice_split-cons_no p x a other))
    ]

join_behind : (done : List (List ℕ)) (begun : List ℕ) (qs : List (List ℕ)) → join (done ++ begun ∷ []) qs ≡ done ++ begin_with begun qs
join_behind [] begun qs = refl
join_behind (p ∷ []) begun qs = refl
join_behind (p ∷ next ∷ done) begun qs = ap (λ (t : List (List ℕ)). p ∷ t) (join_behind (next ∷ done) begun qs)

-- the parts of bytes that more follow: those that are done, and what has begun goes on
pub parts_more : (p : ℕ → Bool) (a b : List ℕ) (done : List (List ℕ)) (begun : List ℕ) → slice_split p a ≡ done ++ begun ∷ []
    → slice_split p (a ++ b) ≡ done ++ begin_with begun (slice_split p b)
parts_more p a b done begun e = slice_split-append p a b ∙ ap (λ (t : List (List ℕ)). join t (slice_split p b)) e ∙ join_behind done begun (slice_split p b)

-- nothing more begins no part
pub begin_with-end : (begun : List ℕ) (rest : List (List ℕ)) → rest ≡ [] ∷ [] → begin_with begun rest ≡ begun ∷ []
begin_with-end begun rest e = ap (begin_with begun) e ∙ ap (λ (t : List ℕ). t ∷ []) (append-nil begun)

-- any bytes have parts that are done, and one behind them
pub has_parts : (p : ℕ → Bool) (a : List ℕ) → (done : List (List ℕ)) × (begun : List ℕ) × (slice_split p a ≡ done ++ begun ∷ [])
has_parts p a =
    let parts : List (List ℕ) = slice_split p a in
    let n : ℕ = length parts - 1 in
    let long : n + 1 ≡ length parts = omega (arith, some_part p a) in
    (take n parts, get_or parts n [], sym (take_all (n + 1) parts (omega arith)) ∙ take_more parts n [] (omega arith))

ended-append : (done : List (List ℕ)) (q : List ℕ) (qs : List (List ℕ)) → ended (done ++ q ∷ qs) ≡ done ++ ended (q ∷ qs)
ended-append [] q qs = refl
ended-append (p ∷ []) q qs = refl
ended-append (p ∷ next ∷ done) q qs = ap (λ (t : List (List ℕ)). p ∷ t) (ended-append (next ∷ done) q qs)

but_last-append : (done : List (List ℕ)) (q : List ℕ) (qs : List (List ℕ)) → but_last (done ++ q ∷ qs) ≡ done ++ but_last (q ∷ qs)
but_last-append done q qs =
    let n : ℕ = length (q ∷ qs) - 1 in
    let most : length (done ++ q ∷ qs) - 1 ≡ length done + n = omega (arith, length-append done (q ∷ qs)) in
    ap (λ (k : ℕ). take k (done ++ q ∷ qs)) most ∙ take-append-add done (q ∷ qs) n

-- the lines of parts of which some are done
pub whole_of-parts : (bytes : List ℕ) (done : List (List ℕ)) (q : List ℕ) (qs : List (List ℕ)) → slice_split is_line_feed bytes ≡ done ++ q ∷ qs
    → whole_lines bytes ≡ map strip_carriage_return done ++ map strip_carriage_return (but_last (q ∷ qs))
unfolding whole_lines
whole_of-parts bytes done q qs e =
    ap (λ (t : List (List ℕ)). map strip_carriage_return (but_last t)) e ∙ ap (map strip_carriage_return) (but_last-append done q qs)
    ∙ map-append strip_carriage_return done (but_last (q ∷ qs))

pub lines_of-parts : (bytes : List ℕ) (done : List (List ℕ)) (q : List ℕ) (qs : List (List ℕ)) → slice_split is_line_feed bytes ≡ done ++ q ∷ qs
    → lines_of bytes ≡ map strip_carriage_return done ++ map strip_carriage_return (ended (q ∷ qs))
unfolding lines_of
lines_of-parts bytes done q qs e =
    ap (λ (t : List (List ℕ)). map strip_carriage_return (ended t)) e ∙ ap (map strip_carriage_return) (ended-append done q qs)
    ∙ map-append strip_carriage_return done (ended (q ∷ qs))

-- the whole lines of bytes with one part behind those that are done
pub whole_of-done : (bytes : List ℕ) (done : List (List ℕ)) (begun : List ℕ) → slice_split is_line_feed bytes ≡ done ++ begun ∷ [] → whole_lines bytes ≡ map strip_carriage_return done
whole_of-done bytes done begun e = whole_of-parts bytes done begun [] e ∙ append-nil (map strip_carriage_return done)

-- more parts behind those that are done
pub begun_parts : (begun : List ℕ) (rest : List (List ℕ)) → (q : List ℕ) × (qs : List (List ℕ)) × (begin_with begun rest ≡ q ∷ qs)
begun_parts begun [] = (begun, [], refl)
begun_parts begun (part ∷ parts) = (begun ++ part, parts, refl)

-- the whole lines of a front are a front of the whole lines
pub whole_lines-front : (a b : List ℕ) → (more : List (List ℕ)) × (whole_lines (a ++ b) ≡ whole_lines a ++ more)
whole_lines-front a b =
    let front = has_parts is_line_feed a in
    let back = begun_parts front.1 (slice_split is_line_feed b) in
    let parts = parts_more is_line_feed a b front.0 front.1 front.2 ∙ ap (λ (t : List (List ℕ)). front.0 ++ t) back.2 in
    let more : List (List ℕ) = map strip_carriage_return (but_last (back.0 ∷ back.1)) in
    (more, whole_of-parts (a ++ b) front.0 back.0 back.1 parts ∙ ap (λ (t : List (List ℕ)). t ++ more) (sym (whole_of-done a front.0 front.1 front.2)))

-- and of all lines
pub lines_of-front : (a b : List ℕ) → (more : List (List ℕ)) × (lines_of (a ++ b) ≡ whole_lines a ++ more)
lines_of-front a b =
    let front = has_parts is_line_feed a in
    let back = begun_parts front.1 (slice_split is_line_feed b) in
    let parts = parts_more is_line_feed a b front.0 front.1 front.2 ∙ ap (λ (t : List (List ℕ)). front.0 ++ t) back.2 in
    let more : List (List ℕ) = map strip_carriage_return (ended (back.0 ∷ back.1)) in
    (more, lines_of-parts (a ++ b) front.0 back.0 back.1 parts ∙ ap (λ (t : List (List ℕ)). t ++ more) (sym (whole_of-done a front.0 front.1 front.2)))
