-- The restrictions in force, and what edits do to them.
use Rattle.std.specs.Prelude.{ℕ, ◌≡◌, ◌≤◌, Bool, not, nat_lt, is_some, if◌then◌else◌, List, [], ◌∷◌, ◌++◌, length, map, Option, None, Result, Ok, Err}
use Rattle.std.specs.List.{filter, find}
use Rattle.std.specs.Option.{option_map}
use Rattle.std.specs.Str.{bytes_eq}
use Rattle.unit_rules.specs.declared.Zone.{Zone}
use Rattle.restrictions.specs.declared.force.EditFault.{EditFault}
use Rattle.restrictions.specs.declared.force.EditFault.TheVariants.{Present, Absent, Full}

-- restrictions in the order in which they were put in force, each with its ID, and how many more can be put with no more
-- memory
pub record ForceView : Type 0 where
  pub pairs : List (List ℕ × Zone)
  pub spare : ℕ

-- the most restrictions that may be in force
abbrev pub most_in_force : ℕ
most_in_force = 10000

-- whether a restriction has this ID
abbrev pub has_id : List ℕ → List ℕ × Zone → Bool
has_id id p = bytes_eq p.0 id

-- the zone of that ID
abbrev pub zone_of : List ℕ → List (List ℕ × Zone) → Option Zone
zone_of id pairs = option_map (λ p. p.1) (find (has_id id) pairs)

-- the restrictions without that ID, in their order
abbrev pub without : List ℕ → List (List ℕ × Zone) → List (List ℕ × Zone)
without id pairs = filter (λ p. not (has_id id p)) pairs

-- the zones of all restrictions
abbrev pub zones_of : List (List ℕ × Zone) → List Zone
zones_of pairs = map (λ p. p.1) pairs

-- what is in force after an ID was put with a zone, or why it is refused
abbrev pub put_in : List ℕ → Zone → List (List ℕ × Zone) → Result (List (List ℕ × Zone)) EditFault
put_in id zone pairs =
    if is_some (zone_of id pairs) then Err Present
    else if nat_lt (length pairs) most_in_force then Ok (pairs ++ (id, zone) ∷ [])
    else Err Full

-- what is in force after an ID was taken out, or why that is refused
abbrev pub take_from : List ℕ → List (List ℕ × Zone) → Result (List (List ℕ × Zone)) EditFault
take_from id pairs = if is_some (zone_of id pairs) then Ok (without id pairs) else Err Absent

-- no restriction has the ID of one behind it
abbrev pub AreDistinct : List (List ℕ × Zone) → Type 0
AreDistinct [] = Unit {0}
AreDistinct (p ∷ pairs) = (zone_of p.0 pairs ≡ None) × AreDistinct pairs

-- the IDs are distinct, and no more are in force than may be
pub record IsForce (f : ForceView) : Type 0 where
  pub distinct : AreDistinct f.pairs
  pub few : length f.pairs ≤ most_in_force
