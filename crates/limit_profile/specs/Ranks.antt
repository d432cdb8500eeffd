-- The order in which zones are kept: by the class of their length, then by where they begin, where they end, and their speed.
use Rattle.std.specs.Prelude.{ℕ, ◌+◌, ◌-◌, ◌*◌, ◌^◌}
use Rattle.std.specs.Int.{leading_zeros, w32}
use Rattle.unit_rules.specs.declared.Zone.{Zone}

-- the class of a zone: how many bits its length has
unfoldable pub class_of : Zone → ℕ
class_of z = 32 - leading_zeros w32 (z.to - z.from)

-- the rank from which zones of a class stand that begin at a point or past it
abbrev pub first_rank_of : ℕ → ℕ → ℕ
first_rank_of class from = class * 2 ^ 96 + from * 2 ^ 64

-- the rank of a zone; where two are the same, so are the zones
unfoldable pub rank_of : Zone → ℕ
rank_of z = first_rank_of (class_of z) z.from + z.to * 2 ^ 32 + z.kmh
