-- Pieces of an input, one after another.
use Rattle.std.proofs.Common.{◌≡◌, ◌<◌, ◌+◌, ◌==◌, ℕ, Bool, false, List, [], ◌∷◌, ◌++◌, Some, None, length, map, take, drop, refl, sym, ap, subst, ◌∙◌, arith, inl, inr, append_assoc, length-take, Result, Ok, Err}
use Rattle.std.specs.Prelude.{position}
use Rattle.std.specs.List.{position_from, position_or_len, slice_split}
use Rattle.std.specs.Str.Lines.{strip_carriage_return}
use Rattle.std.proofs.lemmas.Bool.{cases_Bool}
use Rattle.std.proofs.lemmas.Bool.Decides.{nat_tests}
use Rattle.std.proofs.lemmas.Iterator.Adapters.{position_from-zero}
use Rattle.std.proofs.lemmas.List.{append-nil, map-append}
use Rattle.std.proofs.lemmas.List.Quantifiers.{position-Some}
use Rattle.std.proofs.lemmas.List.Splits.{slice_split-cons_no, slice_split_first}
use Rattle.std.proofs.lemmas.List.Sums.{position_or_len_is}
use Rattle.run_io.specs.Told.{Told}
use Rattle.run_io.proofs.Written.{Writes-nil}
use Rattle.restrictions.specs.Edits.{ended, is_line_feed, lines_of}
use Rattle.session_lines.specs.Dialogues.{Dialogue, IsLawful, after, after_line}
use Rattle.session_lines.specs.Lines.{but_last, whole_lines}
use Rattle.session_lines.specs.Feeding.{Answers, IsFed, begin_with, kept_bytes}
use Rattle.session_lines.specs.Sessions.{Responds}
use Rattle.session_lines.specs.declared.Stop.{Stop}
use Rattle.session_lines.proofs.AnswerFacts.{after-append, answers-more, answers-one, asked-kept, responds-alike, stays-after}
use Rattle.session_lines.proofs.KeptFacts.{keeps_more}
use Rattle.session_lines.proofs.PartFacts.{begin_none, begin_with-end, begun_parts, lines_of-parts, parts_more, some_part, whole_of-done, whole_of-parts}

split-none_from : (p : ℕ → Bool) (i : ℕ) (xs : List ℕ) → position_from p i xs ≡ None → slice_split p xs ≡ xs ∷ []
split-none_from p i [] e = refl
split-none_from p i (x ∷ xs) e =
    elim (cases_Bool (p x)) [
      | inl at ↦ let found = rw at at e in cc found
      | inr other ↦
          let rest = split-none_from p (i + 1) xs (rw other at e) in
          rw (slice_split-cons_no p x xs other, rest) refl
    ]

-- bytes without an LF are the one part
split-none : (xs : List ℕ) → position is_line_feed xs ≡ None → slice_split is_line_feed xs ≡ xs ∷ []
split-none xs e = split-none_from is_line_feed 0 xs (sym (position_from-zero is_line_feed xs) ∙ e)

-- and those with one have the part before the first, and those behind it
split-some : (xs : List ℕ) (at : ℕ) → position is_line_feed xs ≡ Some at → slice_split is_line_feed xs ≡ take at xs ∷ slice_split is_line_feed (drop (at + 1) xs)
split-some xs at e =
    let found = position-Some is_line_feed xs at 0 e in
    let is : at ≡ position_or_len is_line_feed xs = sym (position_or_len_is is_line_feed xs at 0 (omega (arith, found.0)) found.2 (λ _. found.1)) in
    rw (← is) at (slice_split_first is_line_feed xs 0 (rw is at found.0))

module _ {S A : Type 0} (d : Dialogue S A) where
  -- of no bytes all are fed
  pub fed_none : (s : S) (out : Told (List ℕ)) (now : ℕ) → IsFed d s out now [] [] s [] out now
  fed_none s out now = record {
    done = [];
    begun = [];
    parts = refl;
    stand = refl;
    keeps = refl;
    answers = record { later = omega arith; cost = 0; allowed = refl; within = omega arith; outcome = ([], refl, Writes-nil out) };
  }

  module _ (first : S) (out : Told (List ℕ)) (before : ℕ) where
    pub all_parts : {bytes : List ℕ} {s : S} {kept : List ℕ} {mid : Told (List ℕ)} {now : ℕ} → (f : IsFed d first out before bytes [] s kept mid now)
        → slice_split is_line_feed bytes ≡ f.done ++ f.begun ∷ []
    all_parts f = f.parts ∙ ap (λ (t : List (List ℕ)). f.done ++ t) (begin_with-end f.begun ([] ∷ []) refl)

    -- where all bytes are fed, the rest are those that follow
    pub fed_before : (bytes piece : List ℕ) (s : S) (kept : List ℕ) (mid : Told (List ℕ)) (now : ℕ) → IsFed d first out before bytes [] s kept mid now
        → IsFed d first out before (bytes ++ piece) piece s kept mid now
    fed_before bytes piece s kept mid now f = record {
      done = f.done;
      begun = f.begun;
      parts = parts_more is_line_feed bytes piece f.done f.begun (all_parts f);
      stand = f.stand;
      keeps = f.keeps;
      answers = f.answers;
    }

    -- where all bytes are fed, the whole lines are answered
    pub fed_whole : (bytes : List ℕ) (s : S) (kept : List ℕ) (mid : Told (List ℕ)) (now : ℕ) → IsFed d first out before bytes [] s kept mid now
        → Answers d first out before (whole_lines bytes) mid now (Ok tt)
    fed_whole bytes s kept mid now f =
        rw (whole_of-done bytes f.done f.begun (all_parts f)) f.answers

    -- a rest without an LF goes on with what has begun
    pub fed_rest : (bytes rest : List ℕ) (s : S) (kept : List ℕ) (mid : Told (List ℕ)) (now : ℕ) → position is_line_feed rest ≡ None → IsFed d first out before bytes rest s kept mid now
        → IsFed d first out before bytes [] s (take kept_bytes (kept ++ rest)) mid now
    fed_rest bytes rest s kept mid now none f = record {
      done = f.done;
      begun = f.begun ++ rest;
      parts = f.parts ∙ ap (λ (t : List (List ℕ)). f.done ++ begin_with f.begun t) (split-none rest none) ∙ ap (λ (t : List (List ℕ)). f.done ++ t) (sym (begin_with-end (f.begun ++ rest) ([] ∷ []) refl));
      stand = f.stand;
      keeps = ap (λ (t : List ℕ). take kept_bytes (t ++ rest)) f.keeps ∙ keeps_more kept_bytes f.begun rest;
      answers = f.answers;
    }

    -- no bytes behind the last LF: all lines are answered
    pub fed_all : (bytes : List ℕ) (s : S) (kept : List ℕ) (mid : Told (List ℕ)) (now : ℕ) → length kept ≡ 0 → IsFed d first out before bytes [] s kept mid now
        → Answers d first out before (lines_of bytes) mid now (Ok tt)
    fed_all bytes s kept mid now none f =
        let short : length f.begun ≡ 0 = omega (arith, none, ap length f.keeps, length-take kept_bytes f.begun) in
        let no_line : ended (f.begun ∷ []) ≡ [] = rw short refl in
        let lines = lines_of-parts bytes f.done f.begun [] (all_parts f) ∙ ap (λ (t : List (List ℕ)). map strip_carriage_return f.done ++ map strip_carriage_return t) no_line in
        rw (lines, append-nil (map strip_carriage_return f.done)) f.answers

  module _ (law : S → Type 0) (lawful : IsLawful d law) (first : S) (out : Told (List ℕ)) (before : ℕ) where
    -- things stand by the law
    pub fed_law : (bytes rest : List ℕ) (s : S) (kept : List ℕ) (mid : Told (List ℕ)) (now : ℕ) → law first → IsFed d first out before bytes rest s kept mid now → law s
    fed_law bytes rest s kept mid now p f = subst law (sym f.stand) (stays-after d law lawful first (map strip_carriage_return f.done) p)

    -- what was kept of a line, and so much of the rest, asks for what the line asks for
    kept_same : (rest : List ℕ) (s : S) (kept : List ℕ) (at : ℕ) (begun : List ℕ) → kept ≡ take kept_bytes begun
        → d.asked s (strip_carriage_return (take kept_bytes (kept ++ take at rest))) ≡ d.asked s (strip_carriage_return (begun ++ take at rest))
    kept_same rest s kept at begun e =
        let keeps : take kept_bytes (kept ++ take at rest) ≡ take kept_bytes (begun ++ take at rest) = ap (λ (t : List ℕ). take kept_bytes (t ++ take at rest)) e ∙ keeps_more kept_bytes begun (take at rest) in
        ap (λ (t : List ℕ). d.asked s (strip_carriage_return t)) keeps ∙ asked-kept d law lawful s (begun ++ take at rest)

    -- a line that ends in the rest, and is answered or not
    fed_answers : (bytes rest : List ℕ) (s s' : S) (kept : List ℕ) (mid new : Told (List ℕ)) (now then : ℕ) (at : ℕ) (result : Result (Unit {0}) Stop)
        → (f : IsFed d first out before bytes rest s kept mid now) → Responds d s s' (strip_carriage_return (take kept_bytes (kept ++ take at rest))) mid new now then result
        → Answers d first out before (map strip_carriage_return (f.done ++ (f.begun ++ take at rest) ∷ [])) new then result
    fed_answers bytes rest s s' kept mid new now then at result f r =
        let line : List ℕ = f.begun ++ take at rest in
        let same = kept_same rest s kept at f.begun f.keeps in
        let whole = responds-alike d s s' _ (strip_carriage_return line) mid new now then result same r in
        let done = map strip_carriage_return f.done in
        let here = subst (λ (z : S). Responds d z s' (strip_carriage_return line) mid new now then result) f.stand whole in
        rw (map-append strip_carriage_return f.done (line ∷ [])) (answers-one d first s' out before done (strip_carriage_return line) mid new now then result f.answers here)

    line_parts : (bytes rest : List ℕ) (done : List (List ℕ)) (begun : List ℕ) (at : ℕ) → slice_split is_line_feed bytes ≡ done ++ begin_with begun (slice_split is_line_feed rest)
        → position is_line_feed rest ≡ Some at → slice_split is_line_feed bytes ≡ (done ++ (begun ++ take at rest) ∷ []) ++ slice_split is_line_feed (drop (at + 1) rest)
    line_parts bytes rest done begun at parts found =
        parts ∙ ap (λ (t : List (List ℕ)). done ++ begin_with begun t) (split-some rest at found)
        ∙ sym (append_assoc done ((begun ++ take at rest) ∷ []) (slice_split is_line_feed (drop (at + 1) rest)))

    -- a line that ends in the rest, and was answered
    pub fed_line : (bytes rest : List ℕ) (s s' : S) (kept : List ℕ) (mid new : Told (List ℕ)) (now then : ℕ) (at : ℕ) → position is_line_feed rest ≡ Some at
        → Responds d s s' (strip_carriage_return (take kept_bytes (kept ++ take at rest))) mid new now then (Ok tt) → IsFed d first out before bytes rest s kept mid now
        → IsFed d first out before bytes (drop (at + 1) rest) s' [] new then
    fed_line bytes rest s s' kept mid new now then at found r f =
        let line : List ℕ = f.begun ++ take at rest in
        let done = map strip_carriage_return f.done in
        let next : List ℕ = drop (at + 1) rest in
        record {
          done = f.done ++ line ∷ [];
          begun = [];
          parts = line_parts bytes rest f.done f.begun at f.parts found ∙ ap (λ (t : List (List ℕ)). (f.done ++ line ∷ []) ++ t) (sym (begin_none (slice_split is_line_feed next) (some_part is_line_feed next)));
          stand = r.outcome.0 ∙ ap (d.next s) (kept_same rest s kept at f.begun f.keeps) ∙ ap (λ (z : S). after_line d z (strip_carriage_return line)) f.stand
              ∙ sym (ap (after d first) (map-append strip_carriage_return f.done (line ∷ [])) ∙ after-append d first done (strip_carriage_return line ∷ []));
          keeps = refl;
          answers = fed_answers bytes rest s s' kept mid new now then at (Ok tt) f r;
        }

    -- and one whose answer was stopped
    pub fed_stop : (bytes rest : List ℕ) (s s' : S) (kept : List ℕ) (mid new : Told (List ℕ)) (now then : ℕ) (at : ℕ) (stop : Stop) → law first → position is_line_feed rest ≡ Some at
        → Responds d s s' (strip_carriage_return (take kept_bytes (kept ++ take at rest))) mid new now then (Err stop) → IsFed d first out before bytes rest s kept mid now
        → Answers d first out before (whole_lines bytes) new then (Err stop)
    fed_stop bytes rest s s' kept mid new now then at stop lawful_first found r f =
        let line : List ℕ = f.begun ++ take at rest in
        let next : List ℕ = drop (at + 1) rest in
        let more = begun_parts [] (slice_split is_line_feed next) in
        let parts = line_parts bytes rest f.done f.begun at f.parts found
        ∙ ap (λ (t : List (List ℕ)). (f.done ++ line ∷ []) ++ t) (sym (begin_none (slice_split is_line_feed next) (some_part is_line_feed next)) ∙ more.2) in
        rw (whole_of-parts bytes (f.done ++ line ∷ []) more.0 more.1 parts)
        (answers-more d law lawful first out before _ (map strip_carriage_return (but_last (more.0 ∷ more.1))) new then stop lawful_first (fed_answers bytes rest s s' kept mid new now then at (Err stop) f r))

    -- the line behind the last LF, where it has bytes
    pub fed_last : (bytes : List ℕ) (s s' : S) (kept : List ℕ) (mid new : Told (List ℕ)) (now then : ℕ) (result : Result (Unit {0}) Stop) → 0 < length kept
        → Responds d s s' (strip_carriage_return kept) mid new now then result → IsFed d first out before bytes [] s kept mid now
        → Answers d first out before (lines_of bytes) new then result
    fed_last bytes s s' kept mid new now then result some r f =
        let long : 0 < length f.begun = omega (arith, some, ap length f.keeps, length-take kept_bytes f.begun) in
        let a_line : ended (f.begun ∷ []) ≡ f.begun ∷ [] = let bytes : (length f.begun == 0) ≡ false = grind (arith, nat_tests) in rw bytes refl in
        let lines = lines_of-parts bytes f.done f.begun [] (all_parts first out before f) ∙ ap (λ (t : List (List ℕ)). map strip_carriage_return f.done ++ map strip_carriage_return t) a_line in
        let same = ap (λ (t : List ℕ). d.asked s (strip_carriage_return t)) f.keeps ∙ asked-kept d law lawful s f.begun in
        let whole = responds-alike d s s' (strip_carriage_return kept) (strip_carriage_return f.begun) mid new now then result same r in
        let here = subst (λ (z : S). Responds d z s' (strip_carriage_return f.begun) mid new now then result) f.stand whole in
        rw lines (answers-one d first s' out before (map strip_carriage_return f.done) (strip_carriage_return f.begun) mid new now then result f.answers here)
