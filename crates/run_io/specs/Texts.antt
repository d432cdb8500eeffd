-- Lines of numbers, and texts of many lines.
use Rattle.std.specs.Prelude.{ℕ, zero, suc, ◌+◌, ◌==◌, if◌then◌else◌, List, [], ◌++◌, codes, length, map, get_or, ℤ, pos}
use Rattle.std.specs.Fmt.{signed_decimal}
use Rattle.std.specs.List.{join_with_byte}

-- numbers in decimal, one space between, and a line end; 32 is the space
abbrev pub numbers_text : List ℤ → List ℕ
numbers_text numbers = join_with_byte 32 (map signed_decimal numbers) ++ codes "\n"

-- a text behind a space, where it isn't the first
abbrev pub spaced : ℕ → List ℕ → List ℕ
spaced place text = if place == 0 then text else codes " " ++ text

-- such a line piece by piece: each number with the space before it, and then the line end
abbrev pub piece : List ℤ → ℕ → List ℕ
piece numbers place =
    if place == length numbers then codes "\n" else spaced place (signed_decimal (get_or numbers place (pos 0)))

-- the lines of the numbers below n, one after another
abbrev pub lines_below : (ℕ → List ℕ) → ℕ → List ℕ
lines_below line zero = []
lines_below line (suc n) = lines_below line n ++ line n

-- so many lines from a number on
abbrev pub lines_from : (ℕ → List ℕ) → ℕ → ℕ → List ℕ
lines_from line first zero = []
lines_from line first (suc n) = line first ++ lines_from line (first + 1) n
