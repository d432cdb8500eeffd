-- The caps of a line: the greatest squared speed that is allowed at each point.
use Rattle.std.specs.Prelude.{ℕ, ◌+◌, Bool, ◌&&◌, ◌==◌, nat_le, min, List, [], ◌∷◌, ◌++◌, map, filter}
use Rattle.std.specs.List.{range_with_len}
use Rattle.unit_rules.specs.declared.Bound.{Bound}
use Rattle.unit_rules.specs.declared.Zone.{Zone}
use Rattle.run_rules.specs.Speeds.{squared}

-- whether a zone binds at a point: from its start until the train's tail has left it, or to the end of the line
abbrev pub binds_at : ℕ → ℕ → ℕ → Zone → Bool
binds_at length train point z = nat_le z.from point && nat_le point (min length (z.to + train))

-- the least of a number and of those of a list
abbrev pub least : ℕ → List ℕ → ℕ
least most [] = most
least most (x ∷ xs) = min x (least most xs)

-- the squared speeds of the zones that bind at a point
abbrev pub binding_at : ℕ → ℕ → List Zone → ℕ → List ℕ
binding_at length train zones point = map (λ z. squared z.kmh) (filter (λ z. binds_at length train point z) zones)

-- the bounds at a point, as those of a stop, and of both ends of the line
abbrev pub bounds_at : List Bound → ℕ → List ℕ
bounds_at bounds point = map (λ b. b.most) (filter (λ b. b.at == point) bounds)

-- the cap at a point: the least of the train's top speed, of all zones that bind there, and of the bounds there
abbrev pub cap_at : ℕ → ℕ → ℕ → List Zone → List Bound → ℕ → ℕ
cap_at length train top zones bounds point = least (squared top) (binding_at length train zones point ++ bounds_at bounds point)

-- the caps at all points of a line, from 0 to its length
abbrev pub caps_of : ℕ → ℕ → ℕ → List Zone → List Bound → List ℕ
caps_of length train top zones bounds = map (cap_at length train top zones bounds) (range_with_len 0 (length + 1))
