-- The lines of a certificate by their place, as they are written.
use Rattle.std.specs.Prelude.{ℕ, ◌==◌, if◌then◌else◌, List, ◌++◌, codes, length, Option, Some, None, slice_get, slice_index}
use Rattle.unit_rules.specs.declared.Reach.{Reach}
use Rattle.certificate.specs.Texts.{dashed_row, full_row, verdict_line}

-- the row of a point, with its LF
abbrev pub point_row : ℕ → Option ℕ → List ℕ
point_row c (Some e) = full_row c e ++ codes "\n"
point_row c None = dashed_row c ++ codes "\n"

-- the line of a verdict, with its LF
abbrev pub verdict_text : Reach → List ℕ
verdict_text verdict = verdict_line verdict ++ codes "\n"

-- the line at a place: the row of that point, or the verdict's behind all
abbrev pub row_at : List ℕ → List ℕ → Reach → ℕ → List ℕ
row_at c e verdict place =
    if place == length c then verdict_text verdict else point_row (slice_index c place) (slice_get e place)
