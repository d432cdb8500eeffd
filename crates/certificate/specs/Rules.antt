-- The rules of a text in the words of its lines. A line breaks rule 1 where it stands after the verdict's line, rule 2 where it has
-- none of the four forms, and rule 3 where it has two numbers and stands after a line with a dash. Where the text ends before a
-- verdict's line and its LF, what stands behind the last LF breaks rule 4, if it breaks no other; it breaks none of the others where it
-- is empty.
use Rattle.std.specs.Prelude.{ℕ, ◌+◌, Bool, true, false, ◌==◌, ◌&&◌, if◌then◌else◌, List, [], length, take, slice_index_or, Option, Some, None}
use Rattle.std.specs.List.{list_any}
use Rattle.certificate.specs.declared.lines.Line.{Line}
use Rattle.certificate.specs.declared.lines.Line.TheVariants.{Full, Dashed, Verdict}
use Rattle.certificate.specs.Lines.{line_of}

-- a line says a verdict, has two numbers, has a number and a dash, or has none of the four forms
abbrev pub is_verdict : Option Line → Bool
is_verdict (Some (Verdict v)) = true
is_verdict _ = false

abbrev pub is_full : Option Line → Bool
is_full (Some (Full c e)) = true
is_full _ = false

abbrev pub is_dashed : Option Line → Bool
is_dashed (Some (Dashed c)) = true
is_dashed _ = false

abbrev pub is_formless : Option Line → Bool
is_formless None = true
is_formless _ = false

-- the verdict line is one of these
abbrev pub has_verdict : List (List ℕ) → Bool
has_verdict lines = list_any (λ line. is_verdict (line_of line)) lines

-- a row with a dash is one of these
abbrev pub has_dashed : List (List ℕ) → Bool
has_dashed lines = list_any (λ line. is_dashed (line_of line)) lines

-- the least rule that a line behind others breaks, or 0 where it breaks none; the last part ends without an LF, and may be no line
abbrev pub rule_behind : List (List ℕ) → List ℕ → Bool → ℕ
rule_behind before line last =
    if last && (length line == 0) then (if has_verdict before then 0 else 4)
    else if has_verdict before then 1
    else if is_formless (line_of line) then 2
    else if is_full (line_of line) && has_dashed before then 3
    else if last then 4
    else 0

-- the same of the part with that index
abbrev pub rule_at : List (List ℕ) → ℕ → ℕ
rule_at parts i = rule_behind (take i parts) (slice_index_or parts i []) (i + 1 == length parts)
