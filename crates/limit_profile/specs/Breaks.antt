-- The caps of the zones as a list of breaks, the points from which they are others than before.
use Rattle.std.specs.Prelude.{◌≡◌, ℕ, zero, suc, ◌+◌, ◌-◌, ◌*◌, ◌≤◌, ◌<◌, length, slice_index_or, Bool, ◌||◌, ◌==◌, not, cond, List, [], ◌∷◌, ◌++◌}
use Rattle.std.specs.List.Sorted.{IsNonDecreasingBy}
use Rattle.unit_rules.specs.declared.Zone.{Zone}
use Rattle.run_rules.specs.Caps.{binding_at, least}
use Rattle.run_rules.specs.Speeds.{squared}
use Rattle.limit_profile.specs.declared.breaks.Break.{Break}
use Rattle.limit_profile.specs.Profile.{IsProfile, Profile}
use Rattle.limit_profile.specs.Ranks.{rank_of}

-- the least of the top speed and of the zones that bind at a point
abbrev pub zoned_at : ℕ → ℕ → ℕ → List Zone → ℕ → ℕ
zoned_at length train top zones point = least (squared top) (binding_at length train zones point)

-- whether the number of a point is another than that of the point before; point 0 has none before it
abbrev pub begins : (ℕ → ℕ) → ℕ → Bool
begins f point = (point == 0) || not (f (point - 1) == f point)

-- the breaks below a point: each point at which another number begins, with that number
abbrev pub breaks_below : (ℕ → ℕ) → ℕ → List Break
breaks_below f zero = []
breaks_below f (suc point) = breaks_below f point ++ cond (begins f point) (record { at = point; most = f point } ∷ []) []

-- the breaks of the zones of a profile
abbrev pub breaks_of : Profile → List Break
breaks_of p = breaks_below (zoned_at p.length p.train p.top p.zones) (p.length + 1)

-- each break and the next are as told
abbrev pub Neighbours : (Break → Break → Type 0) → List Break → Type 0
Neighbours Told breaks = (k : ℕ) (d : Break) → k + 1 < length breaks → Told (slice_index_or breaks k d) (slice_index_or breaks (k + 1) d)

-- some breaks, the first of which stands at the line's start
pub record AreBegun (breaks : List Break) : Type 0 where
  pub some : 0 < length breaks
  pub first : (d : Break) → (slice_index_or breaks 0 d).at ≡ 0

-- limits as they are kept: a profile with its zones by rank, and the breaks of these, with room for more of both, and to list breaks
pub record IsKept (p : Profile) (breaks : List Break) (zone_room break_room other_room : ℕ) : Type 0 where
  pub profile : IsProfile p
  pub ranked : IsNonDecreasingBy rank_of p.zones
  pub listed : breaks ≡ breaks_of p
  pub zones_fit : length p.zones + p.spare ≤ zone_room
  pub breaks_fit : 2 * (length p.zones + p.spare) + 2 ≤ break_room
  pub others_fit : 2 * (length p.zones + p.spare) + 2 ≤ other_room
