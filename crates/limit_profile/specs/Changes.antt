-- What one zone more or less has to do with the caps of zones.
use Rattle.std.specs.Prelude.{◌≡◌, ℕ, ◌+◌, ◌<◌, true, false, length, min, List}
use Rattle.unit_rules.specs.declared.Zone.{Zone}
use Rattle.run_rules.specs.Caps.{binds_at}
use Rattle.run_rules.specs.Speeds.{squared}
use Rattle.limit_profile.specs.Breaks.{breaks_below}
use Rattle.limit_profile.specs.Course.{zoned}
use Rattle.limit_profile.specs.declared.breaks.Break.{Break}
use Rattle.limit_profile.specs.declared.changes.Change.{Change}
use Rattle.limit_profile.specs.declared.changes.Change.TheVariants.{Added, Removed}
use Rattle.limit_profile.specs.declared.pieces.Course.{Course}

-- the caps after a change where the changed zone binds: where it was added the lesser of those before and of its own,
-- and where it was removed those of other zones
abbrev pub changed : Course → Change → Zone → List Zone → (ℕ → ℕ) → ℕ → ℕ
changed c Added zone zones before point = min (before point) (squared zone.kmh)
changed c Removed zone zones before point = zoned c zones point

-- the caps after a change come from those before it; where the changed zone doesn't bind they are the same
pub record ComesFrom (c : Course) (change : Change) (zone : Zone) (zones : List Zone) (before after : ℕ → ℕ) : Type 0 where
  pub outside : (point : ℕ) → binds_at c.length c.train point zone ≡ false → after point ≡ before point
  pub inside : (point : ℕ) → binds_at c.length c.train point zone ≡ true → after point ≡ changed c change zone zones before point

-- the breaks before such a change, after which there is room for the breaks and one more
pub record AreBefore (c : Course) (change : Change) (zone : Zone) (zones : List Zone) (breaks : List Break) (room : ℕ) : Type 0 where
  pub before : ℕ → ℕ
  pub after : ℕ → ℕ
  pub come : ComesFrom c change zone zones before after
  pub listed : breaks ≡ breaks_below before (c.length + 1)
  pub fit : length (breaks_below after (c.length + 1)) < room
