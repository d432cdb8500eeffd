-- How the reader goes through the lines of a text, one behind the other. Reading says what it comes to, and is all that a caller sees.
use Rattle.std.specs.Prelude.{ℕ, ◌+◌, Bool, nat_lt, if◌then◌else◌, List, [], ◌∷◌, ◌++◌, length, Option, Some, None, Result, Ok, Err}
use Rattle.unit_rules.specs.declared.Reach.{Reach}
use Rattle.certificate.specs.declared.reading.CertText.{CertText}
use Rattle.certificate.specs.declared.reading.CertText.TheVariants.{Bad}
use Rattle.certificate.specs.declared.lines.Line.{Line}
use Rattle.certificate.specs.declared.lines.Line.TheVariants.{Full, Dashed, Verdict}
use Rattle.certificate.specs.Lines.{line_of}
use Rattle.certificate.specs.Texts.{CertView}

-- the numbers of the rows of a text: the first of each row, and the second of each row that has one
pub record DraftView : Type 0 where
  pub c : List ℕ
  pub e : List ℕ

-- a row of these has a dash: the second numbers are fewer
abbrev pub has_dash : DraftView → Bool
has_dash rows = nat_lt (length rows.e) (length rows.c)

-- the line behind these rows breaks a rule; lines are counted from 1
abbrev pub bad_behind : {A : Type 0} → DraftView → ℕ → Result A CertText
bad_behind rows rule = Err (Bad (length rows.c + 1) rule)

-- a line behind these rows, or the rule of 2 and 3 that it breaks
abbrev pub judged : DraftView → Option Line → Result Line ℕ
judged rows None = Err 2
judged rows (Some (Full c e)) = if has_dash rows then Err 3 else Ok (Full c e)
judged rows (Some (Dashed c)) = Ok (Dashed c)
judged rows (Some (Verdict v)) = Ok (Verdict v)

-- the rows with one more that has two numbers
abbrev pub with_row : DraftView → ℕ → ℕ → DraftView
with_row rows c e = record { c = rows.c ++ c ∷ []; e = rows.e ++ e ∷ [] }

-- the rows with the one that a line is, or the verdict that it is
abbrev pub added : DraftView → Result Line ℕ → Result (DraftView × Option Reach) CertText
added rows (Ok (Full c e)) = Ok (with_row rows c e, None)
added rows (Ok (Dashed c)) = Ok (record { c = rows.c ++ c ∷ []; e = rows.e }, None)
added rows (Ok (Verdict v)) = Ok (rows, Some v)
added rows (Err rule) = bad_behind rows rule

-- the rule that the bytes behind the last LF break: 4, where it is none of 2 and 3
abbrev pub rule_of : Result Line ℕ → ℕ
rule_of (Ok line) = 4
rule_of (Err rule) = rule

abbrev pub rule_of_rest : DraftView → List ℕ → ℕ
rule_of_rest rows [] = 4
rule_of_rest rows (b ∷ rest) = rule_of (judged rows (line_of (b ∷ rest)))

-- the certificate of these rows and a verdict, where nothing stands behind its line; or rule 1, of the line that does
abbrev pub finished : DraftView → Reach → List (List ℕ) → Result CertView CertText
finished rows verdict ([] ∷ []) = Ok (record { c = rows.c; e = rows.e; verdict = verdict })
finished rows verdict parts = Err (Bad (length rows.c + 2) 1)

-- what comes of a line that an LF ends: the next are read behind the row that it is, or it is the verdict line
abbrev pub led_on : (DraftView → Result CertView CertText) → List (List ℕ) → Result (DraftView × Option Reach) CertText → Result CertView CertText
led_on next parts (Ok (rows, None)) = next rows
led_on next parts (Ok (rows, Some verdict)) = finished rows verdict parts
led_on next parts (Err bad) = Err bad

-- what lines read as behind these rows; an LF ends each but the last, which is what stands behind the last LF
unfoldable pub read_lines : DraftView → List (List ℕ) → Result CertView CertText
read_lines rows [] = bad_behind rows 4
read_lines rows (rest ∷ []) = bad_behind rows (rule_of_rest rows rest)
read_lines rows (line ∷ next ∷ parts) = led_on (λ more. read_lines more (next ∷ parts)) (next ∷ parts) (added rows (judged rows (line_of line)))
