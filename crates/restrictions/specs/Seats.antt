-- Where the restriction of an ID stands in the list of those in force.
use Rattle.std.specs.Prelude.{ℕ, ◌-◌, ◌≡◌, ◌≤◌, ◌+◌, nat_lt, if◌then◌else◌, List, [], Option, length, map, slice_index_or}
use Rattle.std.specs.Cmp.Lexicographic.{slice_cmp}
use Rattle.std.specs.List.{find, position}
use Rattle.std.specs.List.Sorted.{IsStrictlySortedBy}
use Rattle.std.specs.Option.{option_map}
use Rattle.std.specs.Ordering.{nat_cmp}
use Rattle.std.specs.Str.{bytes_eq}
use Rattle.unit_rules.specs.declared.Zone.{Zone}
use Rattle.restrictions.specs.Force.{IsForce, has_id}

-- an ID and the place of its restriction in the list of those in force
pub record Seat : Type 0 where
  pub id : List ℕ
  pub place : ℕ

-- the ID at a place, and no bytes past the last one
abbrev pub id_at : List (List ℕ × Zone) → ℕ → List ℕ
id_at pairs place = (slice_index_or pairs place ([], record { from = 0; to = 0; kmh = 0 })).0

-- what a place that is kept says: the ID there has it
abbrev pub seat_at : List (List ℕ × Zone) → ℕ → Seat
seat_at pairs place = record { id = id_at pairs place; place = place }

abbrev pub seats_of : List (List ℕ × Zone) → List ℕ → List Seat
seats_of pairs places = map (seat_at pairs) places

-- the place of an ID by its seat
abbrev pub place_of : List ℕ → List Seat → Option ℕ
place_of id seats = option_map (λ s. s.place) (find (λ s. bytes_eq s.id id) seats)

-- each ID is below those of the seats behind it
abbrev pub IsInOrder : List Seat → Type 0
IsInOrder seats = IsStrictlySortedBy (slice_cmp nat_cmp) (map (λ s. s.id) seats)

-- a place after the restriction at the place `left` went
abbrev pub closed_up : ℕ → ℕ → ℕ
closed_up left place = if nat_lt left place then place - 1 else place

-- a seat after that
abbrev pub moved_up : ℕ → Seat → Seat
moved_up left seat = record { id = seat.id; place = closed_up left seat.place }

-- restrictions as they are kept, with room for more: the places are in the order of the IDs there, and say where each ID
-- stands
pub record IsKept (pairs : List (List ℕ × Zone)) (spare : ℕ) (places : List ℕ) (pair_room place_room : ℕ) : Type 0 where
  pub force : IsForce (record { pairs = pairs; spare = spare })
  pub order : IsInOrder (seats_of pairs places)
  pub stands : (id : List ℕ) → place_of id (seats_of pairs places) ≡ position (has_id id) pairs
  pub pairs_fit : length pairs + spare ≤ pair_room
  pub places_fit : length places + spare ≤ place_room
