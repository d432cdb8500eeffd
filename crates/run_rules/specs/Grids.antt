-- Values by whole km/h, and between them by the squared speed.
use Rattle.std.specs.Prelude.{ℕ, ◌*◌, ◌+◌, ◌-◌, ◌/◌, ℤ, pos, ◌+ℤ◌, ◌-ℤ◌, ◌*ℤ◌, List, length, get_or}
use Rattle.unit_rules.specs.Quotients.{floor_div}
use Rattle.unit_rules.specs.Roots.{root_floor}
use Rattle.run_rules.specs.Speeds.{squared}

-- the value of a list at k km/h
abbrev pub row : List ℤ → ℕ → ℤ
row rows k = get_or rows k (pos 0)

-- the top speed of a list, in km/h
abbrev pub top_of : List ℤ → ℕ
top_of rows = length rows - 1

-- how many squared speeds the band from k km/h up to the next has
unfoldable pub band_width : ℕ → ℕ
band_width k = 10000 * (2 * k + 1)

-- the whole km/h of a squared speed
unfoldable pub whole_kmh : ℕ → ℕ
whole_kmh u = root_floor (u / 10000)

-- the value on the way from low to high, `part` of `all` equal steps on, rounded down
abbrev pub value_between : ℤ → ℤ → ℕ → ℕ → ℤ
value_between low high part all = low +ℤ floor_div ((high -ℤ low) *ℤ pos part) all

-- the value at a squared speed
unfoldable pub value_at : List ℤ → ℕ → ℤ
value_at rows u = let k = whole_kmh u in value_between (row rows k) (row rows (k + 1)) (u - squared k) (band_width k)
