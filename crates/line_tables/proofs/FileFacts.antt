-- What the records of a line file say, record by record.
use Rattle.std.proofs.Common.{◌≡◌, ◌++◌, ℕ, List, [], ◌∷◌, Option, refl}
use Rattle.unit_rules.specs.declared.Zone.{Zone}
use Rattle.record_rules.specs.Records.{Record}
use Rattle.record_rules.proofs.SaidFacts.{filter_map-push, first-push}
use Rattle.line_tables.specs.declared.line.Slope.{Slope}
use Rattle.line_tables.specs.Draft.{DraftView}
use Rattle.line_tables.specs.LineFile.{draft_of, line_of, point_of, slope_of, with_record, zone_of}

same_draft : (l m : Option (List ℕ × ℕ)) (s t : List Slope) (z w : List Zone) (p q : List (List ℕ × ℕ)) → l ≡ m → s ≡ t → z ≡ w → p ≡ q
    → ◌≡◌ {A = DraftView} (record { line = l; slopes = s; limits = z; points = p }) (record { line = m; slopes = t; limits = w; points = q })
same_draft l m s t z w p q e f g h = rw (e, f, g, h) refl

-- what records say with one record more
pub draft_of-push : (rows : List Record) (r : Record) → draft_of (rows ++ r ∷ []) ≡ with_record (draft_of rows) r
draft_of-push rows r = same_draft _ _ _ _ _ _ _ _ (first-push line_of rows r) (filter_map-push slope_of rows r) (filter_map-push zone_of rows r) (filter_map-push point_of rows r)
