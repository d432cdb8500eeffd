-- The rules of records, which are the same in every kind of record file, by number.
use Rattle.std.specs.Prelude.{ℕ}

-- the first field names no kind of record
abbrev pub unknown_kind : ℕ
unknown_kind = 1

-- the record has more or fewer fields than its kind
abbrev pub field_count : ℕ
field_count = 2

-- a field is no canonical numeral, or no name
abbrev pub misspelled : ℕ
misspelled = 3

-- a number is outside its range
abbrev pub out_of_range : ℕ
out_of_range = 4

-- the record comes too early, or its numbers aren't in order
abbrev pub out_of_order : ℕ
out_of_order = 5

-- the record says once more what an earlier one has said
abbrev pub repeated : ℕ
repeated = 6

-- no point of the line has the name that the record gives
abbrev pub no_such_point : ℕ
no_such_point = 7

-- there are already as many records of the kind as a file may have
abbrev pub too_many : ℕ
too_many = 8
