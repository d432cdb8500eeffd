-- The records of a record file, such as a line file.
use Rattle.std.specs.Prelude.{ℕ, List, [], slice_index_or}
use Rattle.csv.specs.Reading.{default_config, records, strip_bom}

-- a record: the bytes of each of its fields
abbrev pub Record : Type 0
Record = List (List ℕ)

-- the field at a place, or nothing past the last
abbrev pub field : Record → ℕ → List ℕ
field r place = slice_index_or r place []

-- the records of a file, as csv defines them: commas, double quotes as the quote, no header, any number of fields
abbrev pub file_records : List ℕ → List Record
file_records bytes = records default_config (strip_bom bytes)
