-- The fields of a record, by place.
use Rattle.std.proofs.Common.{◌≡◌, ℕ, zero, suc, List, [], ◌∷◌, Option, Some, None, refl}
use Rattle.std.specs.Prelude.{unwrap_or}
use Rattle.csv.specs.Records.{field_at}
use Rattle.record_rules.specs.Records.{Record, field}

pub field_at-or : (r : Record) (place : ℕ) → unwrap_or (field_at r place) [] ≡ field r place
unfolding field_at
field_at-or [] place = refl
field_at-or (x ∷ xs) zero = refl
field_at-or (x ∷ xs) (suc place) = field_at-or xs place

pub field-some : (r : Record) (place : ℕ) (text : List ℕ) → Some text ≡ field_at r place → text ≡ field r place
field-some r place text e = rw (← e) at (field_at-or r place)

pub field-none : (r : Record) (place : ℕ) → ◌≡◌ {A = Option (List ℕ)} None (field_at r place) → ◌≡◌ {A = List ℕ} [] (field r place)
field-none r place e = rw (← e) at (field_at-or r place)
