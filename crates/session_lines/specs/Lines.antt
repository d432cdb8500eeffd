-- The lines of an input. Those of all that was given are the lines of a file of edits (`lines_of` of restrictions): what stands
-- before each LF, and what stands behind the last if there is anything; each without one CR at its end.
use Rattle.std.specs.Prelude.{ℕ, ◌-◌, nat_le, if◌then◌else◌, List, length, map, take}
use Rattle.std.specs.List.{slice_split}
use Rattle.std.specs.Str.Lines.{strip_carriage_return}
use Rattle.restrictions.specs.Edits.{is_line_feed, lines_of}
use Rattle.unit_rules.specs.Limits.{most_bytes}

-- all but the last of some parts
abbrev pub but_last : List (List ℕ) → List (List ℕ)
but_last parts = take (length parts - 1) parts

-- the lines that an LF ends
unfoldable pub whole_lines : List ℕ → List (List ℕ)
whole_lines bytes = map strip_carriage_return (but_last (slice_split is_line_feed bytes))

-- the lines of an input that have a reply: all of them; where it has too many bytes, those that end before its limit
abbrev pub lines_within : List ℕ → List (List ℕ)
lines_within input =
    if nat_le (length input) most_bytes then lines_of input else whole_lines (take most_bytes input)
