-- The lines of a text, and the four forms of a line of a certificate. 10 is the line feed (LF); 32 is the space, which alone parts two
-- words.
use Rattle.std.specs.Prelude.{ℕ, Bool, ◌==◌, if◌then◌else◌, List, [], ◌∷◌, codes, Option, Some, None, option_and_then, option_map}
use Rattle.std.specs.List.{slice_split}
use Rattle.std.specs.Str.{bytes_eq}
use Rattle.unit_rules.specs.Numeral.{number_in}
use Rattle.unit_rules.specs.declared.Reach.TheVariants.{Whole, Stalled}
use Rattle.certificate.specs.declared.lines.Line.{Line}
use Rattle.certificate.specs.declared.lines.Line.TheVariants.{Full, Dashed, Verdict}

abbrev pub is_line_feed : ℕ → Bool
is_line_feed b = b == 10

-- the parts of a text: what stands before each LF, and last what stands behind the last one, which is no line where it is empty
abbrev pub parts_of : List ℕ → List (List ℕ)
parts_of bytes = slice_split is_line_feed bytes

abbrev pub is_space : ℕ → Bool
is_space b = b == 32

-- the number of 32 bits that a word is the numeral of
abbrev pub number_of : List ℕ → Option ℕ
number_of word = number_in 0 4294967295 word

-- the row of a number and a word: a second number, or a dash
abbrev pub row_of : List ℕ → ℕ → Option Line
row_of word c = if bytes_eq word (codes "-") then Some (Dashed c) else option_map (Full c) (number_of word)

-- what two words say: where a run stalls, or a row
abbrev pub line_of_two : List ℕ → List ℕ → Option Line
line_of_two first second =
    if bytes_eq first (codes "stalled") then option_map (λ k. Verdict (Stalled k)) (number_of second)
    else option_and_then (row_of second) (number_of first)

-- what words say, where they are a line of one of the four forms
abbrev pub line_of_words : List (List ℕ) → Option Line
line_of_words (word ∷ []) = if bytes_eq word (codes "whole") then Some (Verdict Whole) else None
line_of_words (first ∷ second ∷ []) = line_of_two first second
line_of_words _ = None

-- what a line says
unfoldable pub line_of : List ℕ → Option Line
line_of line = line_of_words (slice_split is_space line)
