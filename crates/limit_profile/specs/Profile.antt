-- What contracts see of the limits of a train on a line.
use Rattle.std.specs.Prelude.{◌≡◌, ℕ, ◌+◌, ◌-◌, ◌≤◌, List, ◌∷◌, All, IsPermutation}
use Rattle.unit_rules.specs.Limits.{greatest_speed, longest_line, longest_train}
use Rattle.unit_rules.specs.Zone.{LiesOn}
use Rattle.unit_rules.specs.declared.Bound.{Bound}
use Rattle.unit_rules.specs.declared.Zone.{Zone}
use Rattle.run_rules.specs.Caps.{cap_at, caps_of}

-- the line's length and the train's in metres, its top speed in km/h, the zones that bind until the tail has left them,
-- the bounds that hold at one point, and how many zones can be added with no more memory
pub record Profile : Type 0 where
  pub length : ℕ
  pub train : ℕ
  pub top : ℕ
  pub zones : List Zone
  pub bounds : List Bound
  pub spare : ℕ

-- limits as they are made, with no room to spare
abbrev pub profile_of : ℕ → ℕ → ℕ → List Zone → List Bound → Profile
profile_of length train top zones bounds = record { length = length; train = train; top = top; zones = zones; bounds = bounds; spare = 0 }

-- the numbers are in range, and zones and bounds lie on the line
pub record IsProfile (p : Profile) : Type 0 where
  pub length_least : 2 ≤ p.length
  pub length_most : p.length ≤ longest_line
  pub train_least : 1 ≤ p.train
  pub train_most : p.train ≤ longest_train
  pub top_least : 1 ≤ p.top
  pub top_most : p.top ≤ greatest_speed
  pub zones_lie : All (LiesOn p.length) p.zones
  pub bounds_lie : All (λ b. b.at ≤ p.length) p.bounds

-- the cap at a point
abbrev pub cap : Profile → ℕ → ℕ
cap p point = cap_at p.length p.train p.top p.zones p.bounds point

-- the caps at all points
abbrev pub caps : Profile → List ℕ
caps p = caps_of p.length p.train p.top p.zones p.bounds

-- a profile with other zones, and another number of them spare
abbrev pub rezoned : Profile → List Zone → ℕ → Profile
rezoned p zones spare = record { length = p.length; train = p.train; top = p.top; zones = zones; bounds = p.bounds; spare = spare }

-- two profiles are the same but for the order of their zones
pub record AreAlike (p q : Profile) : Type 0 where
  pub zones : IsPermutation p.zones q.zones
  pub rest : q ≡ rezoned p q.zones p.spare

-- a profile after a zone was added, in any place
pub record IsAdded (zone : Zone) (before after : Profile) : Type 0 where
  pub zones : IsPermutation (zone ∷ before.zones) after.zones
  pub rest : after ≡ rezoned before after.zones (before.spare - 1)

-- a profile after one of its zones was removed
pub record IsFreed (zone : Zone) (before after : Profile) : Type 0 where
  pub zones : IsPermutation before.zones (zone ∷ after.zones)
  pub rest : after ≡ rezoned before after.zones (before.spare + 1)
