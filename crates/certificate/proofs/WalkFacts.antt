-- What lines read as, by going through them: each text of a certificate reads as it, and what reads as a certificate is its text and what
-- its lines make.
use Rattle.std.proofs.Common.{◌≡◌, ◌<◌, ◌≤◌, ◌+◌, ℕ, Bool, true, false, cond, List, [], ◌∷◌, ◌++◌, All, Option, Some, None, Result, Ok, Err, codes, length, refl, sym, ap, ◌∙◌, append_assoc, length-append, arith, inl, inr}
use Rattle.std.specs.List.{filter_map, join_with_byte, onto_first, slice_split}
use Rattle.std.proofs.lemmas.Bool.{cases_Bool}
use Rattle.std.proofs.lemmas.Bool.Decides.{nat_tests}
use Rattle.std.proofs.lemmas.List.{append-nil}
use Rattle.std.proofs.lemmas.List.Elements.{All-head, All-nil, All-push, All-tail}
use Rattle.std.proofs.lemmas.List.Splits.{join_with_byte-slice_split, length-slice_split, slice_split_at}
use Rattle.unit_rules.specs.Memory.{Gives}
use Rattle.unit_rules.specs.declared.Reach.{Reach}
use Rattle.certificate.specs.declared.reading.CertText.{CertText}
use Rattle.certificate.specs.declared.reading.CertText.TheVariants.{Bad, Memory}
use Rattle.certificate.specs.declared.lines.Line.{Line}
use Rattle.certificate.specs.declared.lines.Line.TheVariants.{Full, Dashed, Verdict}
use Rattle.certificate.specs.Lines.{is_line_feed, line_of, parts_of}
use Rattle.certificate.specs.Reading.{cert_of, first_of, second_of, verdict_of}
use Rattle.certificate.specs.Walk.{DraftView, added, bad_behind, finished, has_dash, judged, led_on, read_lines, rule_of_rest, with_row}
use Rattle.certificate.specs.Texts.{CertView, Fits32, HasPoint, IsCert, cert_text, dashed_row, full_row, rows_text, text_of, verdict_line}
use Rattle.certificate.proofs.LineFacts.{FitsLine, line_of-some, line_of-text, line_text, line_text-no_feed}

-- the bytes behind the last LF, and a line that an LF ends
pub read_lines-rest : (rows : DraftView) (rest : List ℕ) → read_lines rows (rest ∷ []) ≡ bad_behind rows (rule_of_rest rows rest)
unfolding read_lines
read_lines-rest rows rest = refl

pub read_lines-line : (rows : DraftView) (line : List ℕ) (parts : List (List ℕ)) → 0 < length parts
    → read_lines rows (line ∷ parts) ≡ led_on (λ more. read_lines more parts) parts (added rows (judged rows (line_of line)))
unfolding read_lines
read_lines-line rows line [] some = absurd (omega arith)
read_lines-line rows line (next ∷ parts) some = refl

split_some : (text : List ℕ) → 0 < length (slice_split is_line_feed text)
split_some text = omega (arith, length-slice_split is_line_feed text)

-- a line in front of a text
pub read_lines-text : (rows : DraftView) (line : Line) (rest : List ℕ) → FitsLine line
    → read_lines rows (slice_split is_line_feed (line_text line ++ 10 ∷ rest))
    ≡ led_on (λ more. read_lines more (slice_split is_line_feed rest)) (slice_split is_line_feed rest) (added rows (judged rows (Some line)))
read_lines-text rows line rest fits =
    rw (
      slice_split_at is_line_feed (line_text line) 10 rest (line_text-no_feed line fits) refl,
      read_lines-line rows (line_text line) (slice_split is_line_feed rest) (split_some rest),
      line_of-text line fits,
    ) refl

-- a line, its LF and what is behind it, in front of a tail
behind : (line rest tail : List ℕ) → ((line ++ codes "\n") ++ rest) ++ tail ≡ line ++ 10 ∷ (rest ++ tail)
behind line rest tail = append_assoc (line ++ codes "\n") rest tail ∙ append_assoc line (codes "\n") (rest ++ tail)

-- the end of a text
read_lines-verdict : (rows : DraftView) (verdict : Reach) → HasPoint verdict
    → read_lines rows (slice_split is_line_feed (verdict_line verdict ++ codes "\n")) ≡ Ok (record { c = rows.c; e = rows.e; verdict = verdict })
read_lines-verdict rows verdict fits = read_lines-text rows (Verdict verdict) [] fits

-- rows with dashes, and the end
read_dashed : (c : List ℕ) (rows : DraftView) (verdict : Reach) → All Fits32 c → HasPoint verdict
    → read_lines rows (slice_split is_line_feed (rows_text c [] ++ (verdict_line verdict ++ codes "\n"))) ≡ Ok (record { c = rows.c ++ c; e = rows.e; verdict = verdict })
read_dashed [] rows verdict fits point = rw (append-nil rows.c) (read_lines-verdict rows verdict point)
read_dashed (x ∷ c) rows verdict fits point =
    let more : DraftView = record { c = rows.c ++ x ∷ []; e = rows.e } in
    let tail = verdict_line verdict ++ codes "\n" in
    let later = read_dashed c more verdict (All-tail Fits32 x c fits) point in
    let moved : (rows.c ++ x ∷ []) ++ c ≡ rows.c ++ x ∷ c = append_assoc rows.c (x ∷ []) c in
    rw (behind (dashed_row x) (rows_text c []) tail) (read_lines-text rows (Dashed x) (rows_text c [] ++ tail) (All-head Fits32 x c fits) ∙ rw moved at later)

-- no row has a dash
no_dash : (rows : DraftView) → length rows.e ≡ length rows.c → has_dash rows ≡ false
no_dash rows same = grind (arith, nat_tests, same)

-- all rows, and the end
read_rows : (c e : List ℕ) (rows : DraftView) (verdict : Reach) → length rows.e ≡ length rows.c → length e ≤ length c → All Fits32 c → All Fits32 e → HasPoint verdict
    → read_lines rows (slice_split is_line_feed (rows_text c e ++ (verdict_line verdict ++ codes "\n"))) ≡ Ok (record { c = rows.c ++ c; e = rows.e ++ e; verdict = verdict })
read_rows [] [] rows verdict same short fits fits' point = rw (append-nil rows.c, append-nil rows.e) (read_lines-verdict rows verdict point)
read_rows [] (y ∷ e) rows verdict same short fits fits' point = absurd (omega arith)
read_rows (x ∷ c) [] rows verdict same short fits fits' point = rw (append-nil rows.e) (read_dashed (x ∷ c) rows verdict fits point)
read_rows (x ∷ c) (y ∷ e) rows verdict same short fits fits' point =
    let more : DraftView = record { c = rows.c ++ x ∷ []; e = rows.e ++ y ∷ [] } in
    let tail = verdict_line verdict ++ codes "\n" in
    let long : length (rows.e ++ y ∷ []) ≡ length (rows.c ++ x ∷ []) = omega (arith, length-append rows.e (y ∷ []), length-append rows.c (x ∷ [])) in
    let later = read_rows c e more verdict long (omega arith) (All-tail Fits32 x c fits) (All-tail Fits32 y e fits') point in
    let moved : (rows.c ++ x ∷ []) ++ c ≡ rows.c ++ x ∷ c = append_assoc rows.c (x ∷ []) c in
    let moved' : (rows.e ++ y ∷ []) ++ e ≡ rows.e ++ y ∷ e = append_assoc rows.e (y ∷ []) e in
    let first = rw (no_dash rows same) at (read_lines-text rows (Full x y) (rows_text c e ++ tail) (All-head Fits32 x c fits, All-head Fits32 y e fits')) in
    rw (behind (full_row x y) (rows_text c e) tail) (first ∙ rw (moved, moved') at later)

-- the reader goes through all lines of a text
unfoldable pub walked : List ℕ → Result CertView CertText
walked bytes = read_lines (record { c = []; e = [] }) (parts_of bytes)

-- the text of a certificate reads as it
pub walked-text : (x : CertView) → IsCert x → walked (text_of x) ≡ Ok x
unfolding walked cert_text
walked-text x is =
    rw (append_assoc (rows_text x.c x.e) (verdict_line x.verdict) (codes "\n"))
    (read_rows x.c x.e (record { c = []; e = [] }) x.verdict refl is.shorter is.braking is.speeds is.point)

-- a row more behind others
rows_text-full : (c e : List ℕ) (x y : ℕ) → length e ≡ length c → rows_text (c ++ x ∷ []) (e ++ y ∷ []) ≡ rows_text c e ++ (full_row x y ++ codes "\n")
rows_text-full [] [] x y same = append-nil (full_row x y ++ codes "\n")
rows_text-full [] (b ∷ e) x y same = absurd (omega arith)
rows_text-full (a ∷ c) [] x y same = absurd (omega arith)
rows_text-full (a ∷ c) (b ∷ e) x y same =
    rw (rows_text-full c e x y (omega arith)) (sym (append_assoc (full_row a b ++ codes "\n") (rows_text c e) (full_row x y ++ codes "\n")))

rows_text-dashed : (c e : List ℕ) (x : ℕ) → length e ≤ length c → rows_text (c ++ x ∷ []) e ≡ rows_text c e ++ (dashed_row x ++ codes "\n")
rows_text-dashed [] [] x short = append-nil (dashed_row x ++ codes "\n")
rows_text-dashed [] (b ∷ e) x short = absurd (omega arith)
rows_text-dashed (a ∷ c) [] x short =
    rw (rows_text-dashed c [] x (omega arith)) (sym (append_assoc (dashed_row a ++ codes "\n") (rows_text c []) (dashed_row x ++ codes "\n")))
rows_text-dashed (a ∷ c) (b ∷ e) x short =
    rw (rows_text-dashed c e x (omega arith)) (sym (append_assoc (full_row a b ++ codes "\n") (rows_text c e) (dashed_row x ++ codes "\n")))

-- the numbers of the rows so far have 32 bits, and those of the second column are no more
record Keeps (rows : DraftView) : Type 0 where
  shorter : length rows.e ≤ length rows.c
  braking : All Fits32 rows.c
  speeds : All Fits32 rows.e

-- a certificate, whose text is this one
abbrev IsMade : CertView → List ℕ → Type 0
IsMade x text = IsCert x × (text ≡ text_of x)

-- what lines behind these rows read as is a certificate, whose text is that of the rows and the lines
abbrev Makes : List (List ℕ) → Type 0
Makes parts = (rows : DraftView) (x : CertView) → Keeps rows → read_lines rows parts ≡ Ok x → IsMade x (rows_text rows.c rows.e ++ join_with_byte 10 parts)

-- a row, its LF and the lines behind it, behind other rows
next_row : (text row rest : List ℕ) → (text ++ (row ++ codes "\n")) ++ rest ≡ text ++ (row ++ 10 ∷ rest)
next_row text row rest = append_assoc text (row ++ codes "\n") rest ∙ ap (λ (bs : List ℕ). text ++ bs) (append_assoc row (codes "\n") rest)

made_verdict : (rows : DraftView) (verdict : Reach) (line : List ℕ) (parts : List (List ℕ)) (x : CertView) → Keeps rows → HasPoint verdict → line ≡ verdict_line verdict
    → finished rows verdict parts ≡ Ok x → IsMade x (rows_text rows.c rows.e ++ join_with_byte 10 (line ∷ parts))
unfolding cert_text
made_verdict rows verdict line [] x keeps point is e = cc e
made_verdict rows verdict line ([] ∷ []) x keeps point is e =
    let same : record { c = rows.c; e = rows.e; verdict = verdict } ≡ x = cc e in
    rw (← same, is) (
      record { shorter = keeps.shorter; braking = keeps.braking; speeds = keeps.speeds; point = point },
      sym (append_assoc (rows_text rows.c rows.e) (verdict_line verdict) (codes "\n")),
    )
made_verdict rows verdict line ([] ∷ next ∷ parts) x keeps point is e = cc e
made_verdict rows verdict line ((b ∷ part) ∷ parts) x keeps point is e = cc e

made_full : (rows : DraftView) (c e : ℕ) (line : List ℕ) (next : List ℕ) (parts : List (List ℕ)) (x : CertView) → Makes (next ∷ parts) → Keeps rows → Fits32 c → Fits32 e
    → line ≡ full_row c e → led_on (λ more. read_lines more (next ∷ parts)) (next ∷ parts) (added rows (judged rows (Some (Full c e)))) ≡ Ok x
    → IsMade x (rows_text rows.c rows.e ++ join_with_byte 10 (line ∷ next ∷ parts))
made_full rows c e line next parts x makes keeps fits fits' is made = elim (cases_Bool (has_dash rows)) [
  | inl dash ↦ let bad = rw dash at made in cc bad
  | inr none ↦
      let even : length rows.e ≡ length rows.c = grind (arith, nat_tests, none, keeps.shorter) in
      let more : DraftView = record { c = rows.c ++ c ∷ []; e = rows.e ++ e ∷ [] } in
      let longer : length (rows.e ++ e ∷ []) ≤ length (rows.c ++ c ∷ []) = omega (arith, length-append rows.e (e ∷ []), length-append rows.c (c ∷ [])) in
      let keeps' : Keeps more = record { shorter = longer; braking = All-push Fits32 rows.c c keeps.braking fits; speeds = All-push Fits32 rows.e e keeps.speeds fits' } in
      let later = makes more x keeps' (rw none at made) in
      (later.0, rw is (sym (next_row (rows_text rows.c rows.e) (full_row c e) (join_with_byte 10 (next ∷ parts))) ∙ rw (rows_text-full rows.c rows.e c e even) at later.1))
]

made_dashed : (rows : DraftView) (c : ℕ) (line : List ℕ) (next : List ℕ) (parts : List (List ℕ)) (x : CertView) → Makes (next ∷ parts) → Keeps rows → Fits32 c
    → line ≡ dashed_row c → read_lines (record { c = rows.c ++ c ∷ []; e = rows.e }) (next ∷ parts) ≡ Ok x
    → IsMade x (rows_text rows.c rows.e ++ join_with_byte 10 (line ∷ next ∷ parts))
made_dashed rows c line next parts x makes keeps fits is made =
    let more : DraftView = record { c = rows.c ++ c ∷ []; e = rows.e } in
    let longer : length rows.e ≤ length (rows.c ++ c ∷ []) = omega (arith, length-append rows.c (c ∷ []), keeps.shorter) in
    let keeps' : Keeps more = record { shorter = longer; braking = All-push Fits32 rows.c c keeps.braking fits; speeds = keeps.speeds } in
    let later = makes more x keeps' made in
    (later.0, rw is (sym (next_row (rows_text rows.c rows.e) (dashed_row c) (join_with_byte 10 (next ∷ parts))) ∙ rw (rows_text-dashed rows.c rows.e c keeps.shorter) at later.1))

made : (parts : List (List ℕ)) → Makes parts
unfolding read_lines
made [] rows x keeps e = cc e
made (rest ∷ []) rows x keeps e = cc e
made (line ∷ next ∷ parts) rows x keeps e = by (made (next ∷ parts)) (line_of line) refl e
  where
    by : Makes (next ∷ parts) → (o : Option Line) → line_of line ≡ o → led_on (λ more. read_lines more (next ∷ parts)) (next ∷ parts) (added rows (judged rows o)) ≡ Ok x
        → IsMade x (rows_text rows.c rows.e ++ join_with_byte 10 (line ∷ next ∷ parts))
    by makes None says g = cc g
    by makes (Some (Full c e)) says g =
        let is = line_of-some line (Full c e) says in
        made_full rows c e line next parts x makes keeps is.0.0 is.0.1 is.1 g
    by makes (Some (Dashed c)) says g =
        let is = line_of-some line (Dashed c) says in
        made_dashed rows c line next parts x makes keeps is.0 is.1 g
    by makes (Some (Verdict verdict)) says g =
        let is = line_of-some line (Verdict verdict) says in
        made_verdict rows verdict line (next ∷ parts) x keeps is.0 is.1 g

-- what reads as a certificate is its text
pub walked-made : (bytes : List ℕ) (x : CertView) → walked bytes ≡ Ok x → IsCert x × (bytes ≡ text_of x)
unfolding walked
walked-made bytes x e =
    let none : Keeps (record { c = []; e = [] }) = record { shorter = omega arith; braking = All-nil Fits32; speeds = All-nil Fits32 } in
    rw join_with_byte-slice_split at (made (slice_split is_line_feed bytes) (record { c = []; e = [] }) x none e)

-- the rows so far, the numbers of the rows among more parts, and their verdict
abbrev Collected : DraftView → List (List ℕ) → CertView
Collected rows parts = record {
  c = rows.c ++ filter_map first_of (filter_map line_of parts);
  e = rows.e ++ filter_map second_of (filter_map line_of parts);
  verdict = verdict_of (filter_map line_of parts);
}

no_line : line_of [] ≡ None
unfolding line_of
no_line = refl

collected_end : (rows : DraftView) (verdict : Reach) (line : List ℕ) (parts : List (List ℕ)) (x : CertView) → line_of line ≡ Some (Verdict verdict) → finished rows verdict parts ≡ Ok x
    → x ≡ Collected rows (line ∷ parts)
collected_end rows verdict line [] x says e = cc e
collected_end rows verdict line ([] ∷ []) x says e =
    let same : record { c = rows.c; e = rows.e; verdict = verdict } ≡ x = cc e in
    rw (← same, says, no_line, append-nil rows.c, append-nil rows.e) refl
collected_end rows verdict line ([] ∷ next ∷ parts) x says e = cc e
collected_end rows verdict line ((b ∷ part) ∷ parts) x says e = cc e

-- what lines read as behind these rows is made of these and the lines
abbrev Collects : List (List ℕ) → Type 0
Collects parts = (rows : DraftView) (x : CertView) → read_lines rows parts ≡ Ok x → x ≡ Collected rows parts

collected : (parts : List (List ℕ)) → Collects parts
unfolding read_lines
collected [] rows x e = cc e
collected (rest ∷ []) rows x e = cc e
collected (line ∷ next ∷ parts) rows x e = by (collected (next ∷ parts)) (line_of line) refl e
  where
    by : Collects (next ∷ parts) → (o : Option Line) → line_of line ≡ o → led_on (λ more. read_lines more (next ∷ parts)) (next ∷ parts) (added rows (judged rows o)) ≡ Ok x → x ≡ Collected rows (line ∷ next ∷ parts)
    by collects None says g = cc g
    by collects (Some (Full c e)) says g = elim (cases_Bool (has_dash rows)) [
      | inl dash ↦ let bad = rw dash at g in cc bad
      | inr none ↦
          let later = collects (with_row rows c e) x (rw none at g) in
          rw says (rw (append_assoc rows.c (c ∷ []) (filter_map first_of (filter_map line_of (next ∷ parts))), append_assoc rows.e (e ∷ []) (filter_map second_of (filter_map line_of (next ∷ parts)))) at later)
    ]
    by collects (Some (Dashed c)) says g =
        let later = collects (record { c = rows.c ++ c ∷ []; e = rows.e }) x g in
        rw says (rw (append_assoc rows.c (c ∷ []) (filter_map first_of (filter_map line_of (next ∷ parts)))) at later)
    by collects (Some (Verdict verdict)) says g = collected_end rows verdict line (next ∷ parts) x says g

-- so what reads as a certificate is what its lines make
pub walked-collected : (bytes : List ℕ) (x : CertView) → walked bytes ≡ Ok x → x ≡ cert_of (filter_map line_of (parts_of bytes))
unfolding walked
walked-collected bytes x e = collected (parts_of bytes) (record { c = []; e = [] }) x e

-- a line behind the verdict's
pub finished-behind : (rows : DraftView) (verdict : Reach) (rest : List ℕ) → 0 < length rest
    → finished rows verdict (slice_split is_line_feed rest) ≡ Err (Bad (length rows.c + 2) 1)
finished-behind rows verdict [] some = absurd (omega arith)
finished-behind rows verdict (b ∷ rest) some = by (is_line_feed b) (slice_split is_line_feed rest) (split_some rest)
  where
    by : (ends : Bool) (parts : List (List ℕ)) → 0 < length parts → finished rows verdict (cond ends ([] ∷ parts) (onto_first b parts)) ≡ Err (Bad (length rows.c + 2) 1)
    by ends [] none = absurd (omega arith)
    by true (part ∷ parts) more = refl
    by false (part ∷ parts) more = refl

-- what comes of a line that an LF ends, by what it gives
abbrev GivesRow : DraftView → List ℕ → Result (DraftView × Option Reach) CertText → Type 0
GivesRow rows line result = Gives (Err Memory) (added rows (judged rows (line_of line))) result

pub read_lines-stops : (rows : DraftView) (line rest : List ℕ) (fault : CertText) → GivesRow rows line (Err fault)
    → Gives (Err Memory) (read_lines rows (line ∷ slice_split is_line_feed rest)) (Err fault)
read_lines-stops rows line rest fault (inl wanting) = inl (cc wanting)
read_lines-stops rows line rest fault (inr same) =
    inr (sym (read_lines-line rows line (slice_split is_line_feed rest) (split_some rest) ∙ rw (← same) refl))

pub read_lines-on : (rows more : DraftView) (line rest : List ℕ) → GivesRow rows line (Ok (more, None))
    → read_lines rows (line ∷ slice_split is_line_feed rest) ≡ read_lines more (slice_split is_line_feed rest)
read_lines-on rows more line rest (inl wanting) = cc wanting
read_lines-on rows more line rest (inr same) = read_lines-line rows line (slice_split is_line_feed rest) (split_some rest) ∙ rw (← same) refl

pub read_lines-ends : (rows more : DraftView) (verdict : Reach) (line rest : List ℕ) → GivesRow rows line (Ok (more, Some verdict))
    → read_lines rows (line ∷ slice_split is_line_feed rest) ≡ finished more verdict (slice_split is_line_feed rest)
read_lines-ends rows more verdict line rest (inl wanting) = cc wanting
read_lines-ends rows more verdict line rest (inr same) = read_lines-line rows line (slice_split is_line_feed rest) (split_some rest) ∙ rw (← same) refl
