-- What the fields of a record say: numerals, their ranges and their order.
use Rattle.std.specs.Prelude.{ℕ, Bool, false, not, nat_lt, List, Option, Some, None, is_some}
use Rattle.unit_rules.specs.Limits.{longest_line}
use Rattle.unit_rules.specs.Numeral.{number_in, whole_of}
use Rattle.record_rules.specs.Records.{Record, field}

-- whether a text is the numeral of a number of 64 bits
abbrev pub is_numeral : List ℕ → Bool
is_numeral text = is_some (whole_of text)

-- whether a text is the numeral of a number from low to high
abbrev pub is_in : ℕ → ℕ → List ℕ → Bool
is_in low high text = is_some (number_in low high text)

-- the position on any line, in metres, that a text is the numeral of
abbrev pub position_of : List ℕ → Option ℕ
position_of text = number_in 0 longest_line text

-- whether the first number is there and below the second
abbrev pub is_ordered : Option ℕ → Option ℕ → Bool
is_ordered (Some a) (Some b) = nat_lt a b
is_ordered (Some a) None = false
is_ordered None b = false

-- whether the two ends that a record gives are in order
abbrev pub are_ordered : Record → Bool
are_ordered r = is_ordered (position_of (field r 1)) (position_of (field r 2))

-- whether the number is there and not below that one
abbrev pub is_from : ℕ → Option ℕ → Bool
is_from least (Some a) = not (nat_lt a least)
is_from least None = false
