-- Rows of two numbers at the front of a text.
use Rattle.std.proofs.Common.{◌≡◌, ◌<◌, ◌≤◌, ◌+◌, ◌-◌, ◌^◌, ℕ, suc, false, List, [], ◌∷◌, ◌++◌, Err, Ok, codes, inl, inr, length, get_or, take, drop, arith, sym, ◌∙◌, append_assoc, length-append}
use Rattle.std.specs.Fmt.{decimal}
use Rattle.std.specs.Str.Parse.{AllDigits, digits_value}
use Rattle.std.proofs.lemmas.Bool.Decides.{nat_tests}
use Rattle.std.proofs.lemmas.Fmt.{decimal-digits_value}
use Rattle.std.proofs.lemmas.List.{get_or-take, length-take-le, take_at}
use Rattle.std.proofs.Math.Seq.{split_at}
use Rattle.unit_rules.proofs.DigitFacts.{own}
use Rattle.unit_rules.specs.Memory.{Gives}
use Rattle.certificate.specs.declared.lines.Line.TheVariants.{Full}
use Rattle.certificate.specs.declared.reading.CertText.TheVariants.{Memory}
use Rattle.certificate.specs.Lines.{parts_of}
use Rattle.certificate.specs.Walk.{DraftView, has_dash, read_lines, with_row}
use Rattle.certificate.specs.Texts.{Fits32, full_row}
use Rattle.certificate.proofs.WalkFacts.{read_lines-text}

-- digits without a zero in front are the numeral of their number
pub numeral_ahead : (text : List ℕ) (at number : ℕ) → AllDigits 10 (take at text) → number ≡ digits_value 10 (take at text) → number < 2 ^ 64 → at < length text → 0 < at
    → (get_or text 0 0 ≡ 48 → at ≡ 1) → text ≡ decimal number ++ get_or text at 0 ∷ drop (at + 1) text
numeral_ahead text at number digits value fits l some lone =
    let long = length-take-le at text (omega arith) in
    let first = get_or-take at text 0 0 some in
    let numeral = decimal-digits_value own (take at text) digits (omega arith) (λ zero. let one = lone (sym first ∙ zero) in omega arith) (rw value at fits) in
    let next : suc at ≡ at + 1 = omega arith in
    rw (value, numeral) (rw next at (split_at text at 0 l))

-- two numerals and the bytes behind them are a row
pub row_is : (c e : ℕ) (text rest more : List ℕ) → text ≡ decimal c ++ 32 ∷ rest → rest ≡ decimal e ++ 10 ∷ more → text ≡ (full_row c e ++ codes "\n") ++ more
row_is c e text rest more is is' =
    rw (is, is') (sym (append_assoc (full_row c e) (codes "\n") more ∙ append_assoc (decimal c ++ codes " ") (decimal e) (10 ∷ more) ∙ append_assoc (decimal c) (codes " ") (decimal e ++ 10 ∷ more)))

-- what stands in front of a rest
pub front_is : (text xs ys : List ℕ) → text ≡ xs ++ ys → take (length text - length ys) text ≡ xs
front_is text xs ys is =
    let long : length text ≡ length xs + length ys = rw is (length-append xs ys) in
    rw is (take_at xs ys (length (xs ++ ys) - length ys) (omega (arith, length-append xs ys)))

-- a text that has led on to rows, of which none has a dash, and to what is left of it
pub record LeadsTo (before : DraftView) (text : List ℕ) (rows : DraftView) (rest : List ℕ) : Type 0 where
  pub even : has_dash rows ≡ false
  pub reads : read_lines rows (parts_of rest) ≡ read_lines before (parts_of text)
  pub shorter : length rest ≤ length text

with_row-even : (rows : DraftView) (c e : ℕ) → has_dash rows ≡ false → has_dash (with_row rows c e) ≡ false
with_row-even rows c e even = rw (length-append rows.c (c ∷ []), length-append rows.e (e ∷ [])) (grind (arith, nat_tests, even))

-- a row of two numbers in front of what is left leads on to one row more
LeadsTo-row : (before rows : DraftView) (text rest more : List ℕ) (c e : ℕ) → LeadsTo before text rows rest → Fits32 c → Fits32 e → rest ≡ full_row c e ++ 10 ∷ more
    → LeadsTo before text (with_row rows c e) more × (length more < length rest)
LeadsTo-row before rows text rest more c e leads fits fits' is =
    let less : length more < length rest = rw is (omega (arith, length-append (full_row c e) (10 ∷ more))) in
    let row : read_lines rows (parts_of (full_row c e ++ 10 ∷ more)) ≡ read_lines (with_row rows c e) (parts_of more) = rw leads.even at (read_lines-text rows (Full c e) more (fits, fits')) in (
      record {
        even = with_row-even rows c e leads.even;
        reads = sym row ∙ rw is at leads.reads;
        shorter = omega (arith, leads.shorter, less);
      },
      less,
    )

-- as where a call adds it
pub LeadsTo-given : (before rows added : DraftView) (text rest line more : List ℕ) (c e : ℕ) → LeadsTo before text rows rest → (Fits32 c) × (Fits32 e) → line ≡ full_row c e ++ codes "\n" → rest ≡ line ++ more
    → Gives (Err Memory) (Ok (with_row rows c e)) (Ok added) → LeadsTo before text added more × (length more < length rest)
LeadsTo-given before rows added text rest line more c e leads fits row is (inl wanting) = cc wanting
LeadsTo-given before rows added text rest line more c e leads fits row is (inr given) =
    let same : added ≡ with_row rows c e = cc given in
    rw same (LeadsTo-row before rows text rest more c e leads fits.0 fits.1 (is ∙ rw row (append_assoc (full_row c e) (codes "\n") more)))
