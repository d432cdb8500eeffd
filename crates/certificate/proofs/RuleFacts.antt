-- What lines read as, by the rules.
use Rattle.std.proofs.Common.{◌≡◌, ◌<◌, ◌≤◌, ◌+◌, ◌==◌, ℕ, suc, true, false, List, [], ◌∷◌, ◌++◌, Option, Some, None, Result, MatchResult, length, get_or, take, refl, ◌∙◌, append_assoc, length-append, arith, inl, inr, below_more}
use Rattle.std.proofs.lemmas.Bool.{cases_Bool}
use Rattle.std.proofs.lemmas.Bool.Decides.{nat_tests}
use Rattle.std.proofs.lemmas.List.{take_at}
use Rattle.std.proofs.lemmas.List.Folds.{list_any-append}
use Rattle.std.proofs.lemmas.List.Splits.{length-slice_split}
use Rattle.std.proofs.Math.Bool.{and-false, or-true}
use Rattle.std.proofs.Math.Seq.{get_or-append_seam}
use Rattle.unit_rules.specs.declared.Reach.{Reach}
use Rattle.certificate.specs.declared.reading.CertText.{CertText}
use Rattle.certificate.specs.declared.reading.CertText.TheVariants.{Bad, Memory}
use Rattle.certificate.specs.declared.lines.Line.{Line}
use Rattle.certificate.specs.declared.lines.Line.TheVariants.{Full, Dashed, Verdict}
use Rattle.certificate.specs.Lines.{is_line_feed, line_of, parts_of}
use Rattle.certificate.specs.Walk.{DraftView, added, finished, has_dash, judged, led_on, read_lines, rule_of}
use Rattle.certificate.specs.Rules.{has_dashed, has_verdict, is_dashed, is_verdict, rule_at, rule_behind}
use Rattle.certificate.specs.Texts.{CertView}
use Rattle.certificate.proofs.WalkFacts.{read_lines-line, read_lines-rest, walked}

-- no part breaks a rule
abbrev pub KeepsRules : List (List ℕ) → Type 0
KeepsRules parts = (i : ℕ) → i < length parts → rule_at parts i ≡ 0

-- the part with that index is the first that breaks a rule, and this is the least that it breaks
pub record IsFirstBad (parts : List (List ℕ)) (i rule : ℕ) : Type 0 where
  pub within : i < length parts
  pub broken : rule_at parts i ≡ rule
  pub is_rule : 1 ≤ rule
  pub first : (k : ℕ) → k < i → rule_at parts k ≡ 0

-- a fault names the first bad line, counted from 1, and the least rule that it breaks
abbrev pub IsRefusedFor : List (List ℕ) → CertText → Type 0
IsRefusedFor parts (Bad place rule) = (i : ℕ) × (place ≡ i + 1) × IsFirstBad parts i rule
IsRefusedFor parts Memory = ⊥

-- the rows that lines have become, none of which is the verdict's
record Become (before : List (List ℕ)) (rows : DraftView) : Type 0 where
  count : length before ≡ length rows.c
  shorter : length rows.e ≤ length rows.c
  no_verdict : has_verdict before ≡ false
  dashes : has_dashed before ≡ has_dash rows

-- what holds of the parts of a text, where lines behind these rows read as that
abbrev pub Tells : List (List ℕ) → Result CertView CertText → Type 0
Tells all result = MatchResult result (λ _. KeepsRules all) (IsRefusedFor all)

-- a line behind others in the parts of a text
at_line : (before : List (List ℕ)) (line : List ℕ) (rest : List (List ℕ)) → rule_at (before ++ line ∷ rest) (length before) ≡ rule_behind before line (length rest == 0)
at_line before line rest =
    let front : take (length before) (before ++ line ∷ rest) ≡ before = take_at before (line ∷ rest) (length before) refl in
    let here : get_or (before ++ line ∷ rest) (length before) [] ≡ line = get_or-append_seam before line rest [] in
    let long : length (before ++ line ∷ rest) ≡ length before + suc (length rest) = length-append before (line ∷ rest) in
    let last : (length before + 1 == length (before ++ line ∷ rest)) ≡ (length rest == 0) = rw long (grind (arith, nat_tests)) in
    rw (front, here, last) refl

within_parts : (before : List (List ℕ)) (line : List ℕ) (rest : List (List ℕ)) → length before < length (before ++ line ∷ rest)
within_parts before line rest = omega (arith, length-append before (line ∷ rest))

-- no part before that index breaks a rule
abbrev KeptBelow : List (List ℕ) → ℕ → Type 0
KeptBelow all i = (k : ℕ) → k < i → rule_at all k ≡ 0

-- a line that breaks a rule is the first bad one
refused : (before : List (List ℕ)) (line : List ℕ) (rest : List (List ℕ)) (count rule : ℕ) → length before ≡ count → KeptBelow (before ++ line ∷ rest) (length before)
    → 1 ≤ rule → rule_behind before line (length rest == 0) ≡ rule → IsRefusedFor (before ++ line ∷ rest) (Bad (count + 1) rule)
refused before line rest count rule same kept is broken = (
  length before,
  rw same refl,
  record {
    within = within_parts before line rest;
    broken = at_line before line rest ∙ broken;
    is_rule = is;
    first = kept;
  },
)

-- what stands behind the last LF
told_rest : (before : List (List ℕ)) (rest : List ℕ) (rows : DraftView) → Become before rows → KeptBelow (before ++ rest ∷ []) (length before)
    → Tells (before ++ rest ∷ []) (read_lines rows (rest ∷ []))
told_rest before [] rows is kept =
    rw (read_lines-rest rows []) (refused before [] [] (length rows.c) 4 is.count kept (omega arith) (rw is.no_verdict refl))
told_rest before (b ∷ bs) rows is kept = rw (read_lines-rest rows (b ∷ bs)) (by (line_of (b ∷ bs)) refl)
  where
    bytes : (length (b ∷ bs) == 0) ≡ false
    bytes = grind (arith, nat_tests)

    by : (o : Option Line) → line_of (b ∷ bs) ≡ o → IsRefusedFor (before ++ (b ∷ bs) ∷ []) (Bad (length rows.c + 1) (rule_of (judged rows o)))
    by None says = refused before (b ∷ bs) [] (length rows.c) 2 is.count kept (omega arith) (rw (bytes, is.no_verdict, says) refl)
    by (Some (Full c e)) says = elim (cases_Bool (has_dash rows)) [
      | inl dash ↦ rw dash (refused before (b ∷ bs) [] (length rows.c) 3 is.count kept (omega arith) (rw (bytes, is.no_verdict, says, is.dashes, dash) refl))
      | inr none ↦ rw none (refused before (b ∷ bs) [] (length rows.c) 4 is.count kept (omega arith) (rw (bytes, is.no_verdict, says, is.dashes, none) refl))
    ]
    by (Some (Dashed c)) says = refused before (b ∷ bs) [] (length rows.c) 4 is.count kept (omega arith) (rw (bytes, is.no_verdict, says) refl)
    by (Some (Verdict v)) says = refused before (b ∷ bs) [] (length rows.c) 4 is.count kept (omega arith) (rw (bytes, is.no_verdict, says) refl)

-- a line more that is a row
become_full : (before : List (List ℕ)) (line : List ℕ) (rows : DraftView) (c e : ℕ) → Become before rows → line_of line ≡ Some (Full c e) → has_dash rows ≡ false
    → Become (before ++ line ∷ []) (record { c = rows.c ++ c ∷ []; e = rows.e ++ e ∷ [] })
become_full before line rows c e is says none =
    let long = length-append rows.c (c ∷ []) in
    let long' = length-append rows.e (e ∷ []) in
    let shorter = is.shorter in
    let still : has_dash (record { c = rows.c ++ c ∷ []; e = rows.e ++ e ∷ [] }) ≡ false = rw (long, long') (grind (arith, nat_tests, none, shorter)) in
    record {
      count = omega (arith, is.count, long, length-append before (line ∷ []));
      shorter = omega (arith, long, long', shorter);
      no_verdict = rw (list_any-append (λ l. is_verdict (line_of l)) before (line ∷ []), is.no_verdict, says) refl;
      dashes = rw (list_any-append (λ l. is_dashed (line_of l)) before (line ∷ []), is.dashes, none, says, still) refl;
    }

become_dashed : (before : List (List ℕ)) (line : List ℕ) (rows : DraftView) (c : ℕ) → Become before rows → line_of line ≡ Some (Dashed c)
    → Become (before ++ line ∷ []) (record { c = rows.c ++ c ∷ []; e = rows.e })
become_dashed before line rows c is says =
    let long = length-append rows.c (c ∷ []) in
    let shorter = is.shorter in
    let now : has_dash (record { c = rows.c ++ c ∷ []; e = rows.e }) ≡ true = rw long (grind (arith, nat_tests, shorter)) in
    record {
      count = omega (arith, is.count, long, length-append before (line ∷ []));
      shorter = omega (arith, long, shorter);
      no_verdict = rw (list_any-append (λ l. is_verdict (line_of l)) before (line ∷ []), is.no_verdict, says) refl;
      dashes = rw (list_any-append (λ l. is_dashed (line_of l)) before (line ∷ []), says, now) (or-true (has_dashed before));
    }

-- a line more that breaks no rule
kept_on : (before : List (List ℕ)) (line : List ℕ) (next : List ℕ) (parts : List (List ℕ)) → KeptBelow (before ++ line ∷ next ∷ parts) (length before)
    → rule_behind before line false ≡ 0 → KeptBelow ((before ++ line ∷ []) ++ next ∷ parts) (length (before ++ line ∷ []))
kept_on before line next parts kept keeps =
    let moved : (before ++ line ∷ []) ++ next ∷ parts ≡ before ++ line ∷ next ∷ parts = append_assoc before (line ∷ []) (next ∷ parts) in
    let more : (length (next ∷ parts) == 0) ≡ false = grind (arith, nat_tests) in
    rw (moved, length-append before (line ∷ []))
    (below_more (λ k. rule_at (before ++ line ∷ next ∷ parts) k ≡ 0) (length before) kept (at_line before line (next ∷ parts) ∙ rw more keeps))

-- what follows the verdict's line
told_behind : (before : List (List ℕ)) (next : List ℕ) (parts : List (List ℕ)) (rows : DraftView) (verdict : Reach) → length before ≡ length rows.c + 1 → has_verdict before ≡ true
    → KeptBelow (before ++ next ∷ parts) (length before) → Tells (before ++ next ∷ parts) (finished rows verdict (next ∷ parts))
told_behind before [] [] rows verdict count has kept =
    let end : rule_at (before ++ [] ∷ []) (length before) ≡ 0 = at_line before [] [] ∙ rw has refl in
    λ i l. below_more (λ k. rule_at (before ++ [] ∷ []) k ≡ 0) (length before) kept end i (omega (arith, l, length-append before ([] ∷ [])))
told_behind before [] (part ∷ parts) rows verdict count has kept =
    let place : length rows.c + 2 ≡ length rows.c + 1 + 1 = omega arith in
    let more : (length (part ∷ parts) == 0) ≡ false = grind (arith, nat_tests) in
    rw place (refused before [] (part ∷ parts) (length rows.c + 1) 1 count kept (omega arith) (rw (more, has) refl))
told_behind before (b ∷ next) parts rows verdict count has kept =
    let place : length rows.c + 2 ≡ length rows.c + 1 + 1 = omega arith in
    let bytes : (length (b ∷ next) == 0) ≡ false = grind (arith, nat_tests) in
    rw place (refused before (b ∷ next) parts (length rows.c + 1) 1 count kept (omega arith) (rw (bytes, and-false (length parts == 0), has) refl))

-- what lines behind others tell
abbrev ToldOf : List (List ℕ) → Type 0
ToldOf parts = (before : List (List ℕ)) (rows : DraftView) → Become before rows → KeptBelow (before ++ parts) (length before) → Tells (before ++ parts) (read_lines rows parts)

told : (parts : List (List ℕ)) → 0 < length parts → ToldOf parts
told [] some = absurd (omega arith)
told (rest ∷ []) some = λ before rows is kept. told_rest before rest rows is kept
told (line ∷ next ∷ parts) some = λ before rows is kept. by (told (next ∷ parts) (omega arith)) before rows is kept
  where
    more : (length (next ∷ parts) == 0) ≡ false
    more = grind (arith, nat_tests)

    on : ToldOf (next ∷ parts) → (before : List (List ℕ)) (rows : DraftView) → Become (before ++ line ∷ []) rows → KeptBelow (before ++ line ∷ next ∷ parts) (length before)
        → rule_behind before line false ≡ 0 → Tells (before ++ line ∷ next ∷ parts) (read_lines rows (next ∷ parts))
    on later before rows is kept keeps =
        rw append_assoc at (later (before ++ line ∷ []) rows is (kept_on before line next parts kept keeps))

    said : ToldOf (next ∷ parts) → (before : List (List ℕ)) (rows : DraftView) → Become before rows → KeptBelow (before ++ line ∷ next ∷ parts) (length before)
        → (o : Option Line) → line_of line ≡ o → Tells (before ++ line ∷ next ∷ parts) (led_on (λ later. read_lines later (next ∷ parts)) (next ∷ parts) (added rows (judged rows o)))
    said later before rows is kept None says = refused before line (next ∷ parts) (length rows.c) 2 is.count kept (omega arith) (rw (more, is.no_verdict, says) refl)
    said later before rows is kept (Some (Full c e)) says = elim (cases_Bool (has_dash rows)) [
      | inl dash ↦ rw dash (refused before line (next ∷ parts) (length rows.c) 3 is.count kept (omega arith) (rw (more, is.no_verdict, says, is.dashes, dash) refl))
      | inr none ↦
          let now : DraftView = record { c = rows.c ++ c ∷ []; e = rows.e ++ e ∷ [] } in
          rw none (on later before now (become_full before line rows c e is says none) kept (rw (is.no_verdict, says, is.dashes, none) refl))
    ]
    said later before rows is kept (Some (Dashed c)) says =
        let now : DraftView = record { c = rows.c ++ c ∷ []; e = rows.e } in
        on later before now (become_dashed before line rows c is says) kept (rw (is.no_verdict, says) refl)
    said later before rows is kept (Some (Verdict v)) says =
        let count : length (before ++ line ∷ []) ≡ length rows.c + 1 = omega (arith, is.count, length-append before (line ∷ [])) in
        let has : has_verdict (before ++ line ∷ []) ≡ true = rw (list_any-append (λ l. is_verdict (line_of l)) before (line ∷ []), says) (or-true (has_verdict before)) in
        let kept' = kept_on before line next parts kept (rw (is.no_verdict, says) refl) in
        rw append_assoc at (told_behind (before ++ line ∷ []) next parts rows v count has kept')

    by : ToldOf (next ∷ parts) → ToldOf (line ∷ next ∷ parts)
    by later before rows is kept = rw (read_lines-line rows line (next ∷ parts) (omega arith)) (said later before rows is kept (line_of line) refl)

-- going through the lines of a text tells which rules they keep
pub walked-tells : (bytes : List ℕ) → Tells (parts_of bytes) (walked bytes)
unfolding walked
walked-tells bytes =
    told (parts_of bytes) (omega (arith, length-slice_split is_line_feed bytes)) [] (record { c = []; e = [] })
    (record { count = refl; shorter = omega arith; no_verdict = refl; dashes = refl })
    (λ k none. absurd (omega arith))
