-- What bytes read as: the certificate that their lines make, or the first bad line and the least rule that it breaks.
use Rattle.std.specs.Prelude.{ℕ, ◌+◌, nat_lt, List, [], ◌∷◌, length, Option, Some, None, Result, Ok, Err}
use Rattle.std.specs.List.{filter_map, find, range_with_len}
use Rattle.unit_rules.specs.declared.Reach.{Reach}
use Rattle.unit_rules.specs.declared.Reach.TheVariants.{Whole}
use Rattle.certificate.specs.declared.reading.CertText.{CertText}
use Rattle.certificate.specs.declared.reading.CertText.TheVariants.{Bad}
use Rattle.certificate.specs.declared.lines.Line.{Line}
use Rattle.certificate.specs.declared.lines.Line.TheVariants.{Full, Dashed, Verdict}
use Rattle.certificate.specs.Lines.{line_of, parts_of}
use Rattle.certificate.specs.Rules.{rule_at}
use Rattle.certificate.specs.Texts.{CertView}

-- the first number of a row, and the second, where it has one
abbrev pub first_of : Line → Option ℕ
first_of (Full c e) = Some c
first_of (Dashed c) = Some c
first_of (Verdict v) = None

abbrev pub second_of : Line → Option ℕ
second_of (Full c e) = Some e
second_of (Dashed c) = None
second_of (Verdict v) = None

-- the verdict among these lines; where no rule is broken they have one
abbrev pub verdict_of : List Line → Reach
verdict_of [] = Whole
verdict_of (Verdict v ∷ lines) = v
verdict_of (row ∷ lines) = verdict_of lines

-- the numbers of all rows, and the verdict
abbrev pub cert_of : List Line → CertView
cert_of lines = record { c = filter_map first_of lines; e = filter_map second_of lines; verdict = verdict_of lines }

-- the index of the first part that breaks a rule
abbrev pub first_bad : List (List ℕ) → Option ℕ
first_bad parts = find (λ i. nat_lt 0 (rule_at parts i)) (range_with_len 0 (length parts))

-- what parts read as: the certificate of their lines, where none breaks a rule; or the number of the first that does, counted from 1,
-- and the least rule that it breaks
abbrev pub read_parts : List (List ℕ) → Option ℕ → Result CertView CertText
read_parts parts None = Ok (cert_of (filter_map line_of parts))
read_parts parts (Some i) = Err (Bad (i + 1) (rule_at parts i))

-- what bytes read as
unfoldable pub read_as_cert : List ℕ → Result CertView CertText
read_as_cert bytes = read_parts (parts_of bytes) (first_bad (parts_of bytes))
