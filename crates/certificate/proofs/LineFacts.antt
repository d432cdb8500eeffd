-- The lines of a certificate: each has one text, and each text of a line is of one.
use Rattle.std.proofs.Common.{◌≡◌, ◌⊎◌, ◌<◌, ◌^◌, ◌==◌, ◌&&◌, ℕ, ℤ, pos, negsuc, Bool, true, false, cond, nat_le, List, [], ◌∷◌, ◌++◌, All, Option, Some, None, option_and_then, option_map, codes, length, get_or, refl, sym, ap, append_assoc, arith, inl, inr}
use Rattle.std.specs.Fmt.{decimal}
use Rattle.std.specs.List.{join_with_byte, slice_split}
use Rattle.std.specs.Str.{bytes_eq}
use Rattle.std.proofs.lemmas.Bool.{and_parts, cases_Bool}
use Rattle.std.proofs.lemmas.Bool.Decides.{nat_tests}
use Rattle.std.proofs.lemmas.Fmt.{digits_decimal}
use Rattle.std.proofs.lemmas.Int.{ints}
use Rattle.std.proofs.lemmas.List.{get_or_default}
use Rattle.std.proofs.lemmas.List.Elements.{All-append, All-cons, All-from_recursion}
use Rattle.std.proofs.lemmas.List.Splits.{join_with_byte-slice_split, length-slice_split, slice_split_at, slice_split_none}
use Rattle.std.proofs.lemmas.Slice.Eq.{bytes_eq-Decides}
use Rattle.std.proofs.lemmas.Str.Parse.{digit_at}
use Rattle.unit_rules.specs.Numeral.{whole_of, within}
use Rattle.unit_rules.proofs.DigitFacts.{Begins-decimal, own}
use Rattle.unit_rules.proofs.WholeFacts.{whole_of-numeral, whole_of-some}
use Rattle.unit_rules.specs.declared.Reach.TheVariants.{Whole, Stalled}
use Rattle.certificate.specs.declared.lines.Line.{Line}
use Rattle.certificate.specs.declared.lines.Line.TheVariants.{Full, Dashed, Verdict}
use Rattle.certificate.specs.Lines.{is_line_feed, is_space, line_of, line_of_two, line_of_words, number_of, row_of}
use Rattle.certificate.specs.Texts.{Fits32, HasPoint, dashed_row, full_row, verdict_line}

-- the text of a line
abbrev pub line_text : Line → List ℕ
line_text (Full c e) = full_row c e
line_text (Dashed c) = dashed_row c
line_text (Verdict v) = verdict_line v

-- the numbers of a line have 32 bits
abbrev pub FitsLine : Line → Type 0
FitsLine (Full c e) = Fits32 c × Fits32 e
FitsLine (Dashed c) = Fits32 c
FitsLine (Verdict v) = HasPoint v

-- the numeral of a number has no byte below the digits
no_byte : (b n : ℕ) → b < 48 → n < 2 ^ 64 → All (λ x. (x == b) ≡ false) (decimal n)
no_byte b n low h k d l =
    let digit = digit_at (decimal n) k (digits_decimal own n h) l in
    let same : get_or (decimal n) k d ≡ get_or (decimal n) k 0 = get_or_default (decimal n) k d 0 l in
    rw same (grind (arith, nat_tests, digit, low))

-- and is no word that begins with another byte than a digit
differs : (n b : ℕ) (rest : List ℕ) → n < 2 ^ 64 → 0 < length (decimal n) → (b < 48) ⊎ (57 < b) → bytes_eq (decimal n) (b ∷ rest) ≡ false
differs n b rest h some other = elim (cases_Bool (bytes_eq (decimal n) (b ∷ rest))) [
  | inl same ↦
      let e : decimal n ≡ b ∷ rest = (bytes_eq-Decides (decimal n) (b ∷ rest)).0 same in
      let digit = digit_at (decimal n) 0 (digits_decimal own n h) some in
      let first : get_or (decimal n) 0 0 ≡ b = ap (λ (bs : List ℕ). get_or bs 0 0) e in
      absurd (omega (arith, digit, first, other))
  | inr no_same ↦ no_same
]

-- the numeral of a number of 32 bits has that number, and what has one is its numeral
number_of-decimal : (n : ℕ) → Fits32 n → number_of (decimal n) ≡ Some n
number_of-decimal n f =
    let whole : whole_of (decimal n) ≡ Some (pos n) = whole_of-numeral (pos n) (omega (arith, ints)) in
    rw whole (grind (arith, nat_tests, f))

number_of-some : (word : List ℕ) (n : ℕ) → number_of word ≡ Some n → (Fits32 n) × (word ≡ decimal n)
number_of-some word n e = by (whole_of word) refl e
  where
    in_range : (m : ℕ) → whole_of word ≡ Some (pos m) → (b : Bool) → (nat_le 0 m && nat_le m 4294967295) ≡ b → cond b (Some m) None ≡ Some n → (Fits32 n) × (word ≡ decimal n)
    in_range m is true t g =
        let small = (and_parts (nat_le 0 m) (nat_le m 4294967295) t).1 in
        let same : m ≡ n = cc g in
        rw (← same) (grind (arith, nat_tests, small), (whole_of-some word (pos m) is).same)
    in_range m is false t g = cc g

    by : (o : Option ℤ) → whole_of word ≡ o → option_and_then (within 0 4294967295) o ≡ Some n → (Fits32 n) × (word ≡ decimal n)
    by None is g = cc g
    by (Some (negsuc m)) is g = cc g
    by (Some (pos m)) is g = in_range m is (nat_le 0 m && nat_le m 4294967295) refl g

-- a line of two words has these words
words_of-two : (first second : List ℕ) → All (λ b. is_space b ≡ false) first → All (λ b. is_space b ≡ false) second
    → slice_split is_space ((first ++ codes " ") ++ second) ≡ first ∷ second ∷ []
words_of-two first second plain plain' =
    rw (append_assoc first (codes " ") second, slice_split_at is_space first 32 second plain refl, slice_split_none is_space second plain') refl

some_digits : (n : ℕ) → n < 2 ^ 64 → 0 < length (decimal n)
some_digits n h = (Begins-decimal n h).some

dash_plain : All (λ b. is_space b ≡ false) (codes "-")
dash_plain = All-from_recursion (λ b. is_space b ≡ false) (codes "-") (refl, tt)

stalled_plain : All (λ b. is_space b ≡ false) (codes "stalled")
stalled_plain = All-from_recursion (λ b. is_space b ≡ false) (codes "stalled") (refl, (refl, (refl, (refl, (refl, (refl, (refl, tt)))))))

-- the line of a text is the one whose text it is
pub line_of-text : (line : Line) → FitsLine line → line_of (line_text line) ≡ Some line
unfolding line_of
line_of-text (Full c e) f =
    let small : c < 2 ^ 64 = omega (arith, f.0) in
    let small' : e < 2 ^ 64 = omega (arith, f.1) in
    rw (
      words_of-two (decimal c) (decimal e) (no_byte 32 c (omega arith) small) (no_byte 32 e (omega arith) small'),
      differs c 115 (codes "talled") small (some_digits c small) (inr (omega arith)),
      number_of-decimal c f.0,
      differs e 45 [] small' (some_digits e small') (inl (omega arith)),
      number_of-decimal e f.1,
    ) refl
line_of-text (Dashed c) f =
    let small : c < 2 ^ 64 = omega (arith, f) in
    let words = words_of-two (decimal c) (codes "-") (no_byte 32 c (omega arith) small) dash_plain in
    let same : (decimal c ++ codes " ") ++ codes "-" ≡ decimal c ++ codes " -" = append_assoc (decimal c) (codes " ") (codes "-") in
    rw (
      rw same at words,
      differs c 115 (codes "talled") small (some_digits c small) (inr (omega arith)),
      number_of-decimal c f,
    ) refl
line_of-text (Verdict Whole) f = refl
line_of-text (Verdict (Stalled k)) f =
    let words = words_of-two (codes "stalled") (decimal k) stalled_plain (no_byte 32 k (omega arith) (omega (arith, f))) in
    rw (words, number_of-decimal k f) refl

-- what is said by a text, and that it is that text
abbrev pub IsLine : Line → List ℕ → Type 0
IsLine line text = FitsLine line × (text ≡ line_text line)

row_made : (first second : List ℕ) (c : ℕ) (line : Line) → number_of first ≡ Some c → row_of second c ≡ Some line → IsLine line (first ++ 32 ∷ second)
row_made first second c line is e = elim (cases_Bool (bytes_eq second (codes "-"))) [
  | inl at ↦
      let word : second ≡ codes "-" = (bytes_eq-Decides second (codes "-")).0 at in
      let dashed = rw at at e in
      let same : Dashed c ≡ line = cc dashed in
      rw (← same, word) (number.0, rw number.1 refl)
  | inr other ↦ full (number_of second) refl (rw other at e)
]
  where
    number : (Fits32 c) × (first ≡ decimal c)
    number = number_of-some first c is

    full : (o : Option ℕ) → number_of second ≡ o → option_map (Full c) o ≡ Some line → IsLine line (first ++ 32 ∷ second)
    full None known g = cc g
    full (Some m) known g =
        let same : Full c m ≡ line = cc g in
        let more = number_of-some second m known in
        rw (← same, number.1, more.1) ((number.0, more.0), sym (append_assoc (decimal c) (codes " ") (decimal m)))

pair_made : (first second : List ℕ) (line : Line) → line_of_two first second ≡ Some line → IsLine line (first ++ 32 ∷ second)
pair_made first second line e = elim (cases_Bool (bytes_eq first (codes "stalled"))) [
  | inl at ↦ stalled ((bytes_eq-Decides first (codes "stalled")).0 at) (number_of second) refl (rw at at e)
  | inr other ↦ row (number_of first) refl (rw other at e)
]
  where
    stalled : first ≡ codes "stalled" → (o : Option ℕ) → number_of second ≡ o → option_map (λ k. Verdict (Stalled k)) o ≡ Some line → IsLine line (first ++ 32 ∷ second)
    stalled word None known g = cc g
    stalled word (Some k) known g =
        let same : Verdict (Stalled k) ≡ line = cc g in
        let number = number_of-some second k known in
        rw (← same, word, number.1) (number.0, refl)

    row : (o : Option ℕ) → number_of first ≡ o → option_and_then (row_of second) o ≡ Some line → IsLine line (first ++ 32 ∷ second)
    row None known g = cc g
    row (Some c) known g = row_made first second c line known g

-- what words say is the line that they make with a space between
made : (words : List (List ℕ)) (line : Line) → line_of_words words ≡ Some line → IsLine line (join_with_byte 32 words)
made [] line e = cc e
made (word ∷ []) line e = elim (cases_Bool (bytes_eq word (codes "whole"))) [
  | inl at ↦
      let whole = rw at at e in
      let same : Verdict Whole ≡ line = cc whole in
      rw (← same) (tt, (bytes_eq-Decides word (codes "whole")).0 at)
  | inr other ↦ let none = rw other at e in cc none
]
made (first ∷ second ∷ []) line e = pair_made first second line e
made (first ∷ second ∷ third ∷ words) line e = cc e

-- a text that is a line is the text of that line
pub line_of-some : (text : List ℕ) (line : Line) → line_of text ≡ Some line → IsLine line text
unfolding line_of
line_of-some text line e = rw join_with_byte-slice_split at (made (slice_split is_space text) line e)

-- no LF stands in the text of a line
pub line_text-no_feed : (line : Line) → FitsLine line → All (λ b. is_line_feed b ≡ false) (line_text line)
line_text-no_feed (Full c e) f =
    rw (append_assoc (decimal c) (codes " ") (decimal e))
    (All-append (λ b. is_line_feed b ≡ false) (decimal c) (32 ∷ decimal e) (no_byte 10 c (omega arith) (omega (arith, f.0)))
    (All-cons (λ b. is_line_feed b ≡ false) 32 (decimal e) refl (no_byte 10 e (omega arith) (omega (arith, f.1)))))
line_text-no_feed (Dashed c) f =
    All-append (λ b. is_line_feed b ≡ false) (decimal c) (codes " -") (no_byte 10 c (omega arith) (omega (arith, f)))
    (All-from_recursion (λ b. is_line_feed b ≡ false) (codes " -") (refl, (refl, tt)))
line_text-no_feed (Verdict Whole) f = All-from_recursion (λ b. is_line_feed b ≡ false) (codes "whole") (refl, (refl, (refl, (refl, (refl, tt)))))
line_text-no_feed (Verdict (Stalled k)) f =
    All-append (λ b. is_line_feed b ≡ false) (codes "stalled ") (decimal k)
    (All-from_recursion (λ b. is_line_feed b ≡ false) (codes "stalled ") (refl, (refl, (refl, (refl, (refl, (refl, (refl, (refl, tt)))))))))
    (no_byte 10 k (omega arith) (omega (arith, f)))

-- a line of three words or more is none of the forms
pub line_of-more : (line first second rest : List ℕ) (words : List (List ℕ)) → slice_split is_space line ≡ first ∷ words → words ≡ second ∷ slice_split is_space rest
    → line_of line ≡ None
unfolding line_of
line_of-more line first second rest words e e' = rw (e, e') (by (slice_split is_space rest) (omega (arith, length-slice_split is_space rest)))
  where
    by : (more : List (List ℕ)) → 0 < length more → line_of_words (first ∷ second ∷ more) ≡ None
    by [] some = absurd (omega arith)
    by (third ∷ more) some = refl
