-- How fast the values of a table may change from one speed to the next.
use Rattle.std.specs.Prelude.{◌≡◌, ℕ, ◌*◌, ◌+◌, ◌^◌, ◌≤◌, ◌<◌, Bool, IsTrue, IsFalse, ℤ, pos, neg_ℤ, ◌-ℤ◌, ◌≤ℤ◌, int_le, List, length}
use Rattle.unit_rules.specs.Limits.{greatest_value}
use Rattle.run_rules.specs.Grids.{row, top_of, band_width}
use Rattle.table_laws.specs.declared.Law.{Law}
use Rattle.table_laws.specs.declared.Law.TheVariants.{Drop, Climb}
use Rattle.table_laws.specs.declared.LawFault.{LawFault}
use Rattle.table_laws.specs.declared.LawFault.TheVariants.{Broken}

-- how far a value moves the way that the law bounds: how far it drops, or how far it climbs
abbrev pub bounded_move : Law → ℤ → ℤ → ℤ
bounded_move (Drop per) here there = here -ℤ there
bounded_move Climb here there = there -ℤ here

-- how far it may move that way over so many squared speeds: by `per` for each, or by 1 for each
abbrev pub room : Law → ℕ → ℕ
room (Drop per) count = per * count
room Climb count = count

-- whether over so many squared speeds a value moves by at most that
unfoldable pub moves_within : Law → ℕ → ℤ → ℤ → Bool
moves_within law count here there = int_le (bounded_move law here there) (pos (room law count))

-- whether the values keep the law from k km/h to the next
abbrev pub keeps_law_at : Law → List ℤ → ℕ → Bool
keeps_law_at law rows k = moves_within law (band_width k) (row rows k) (row rows (k + 1))

-- they keep it up to the top speed
abbrev pub KeepsLaw : Law → List ℤ → Type 0
KeepsLaw law rows = (k : ℕ) → k < top_of rows → IsTrue (keeps_law_at law rows k)

-- k km/h is the first speed from which they break it
pub record IsFirstBreak (law : Law) (rows : List ℤ) (k : ℕ) : Type 0 where
  pub below_top : k < top_of rows
  pub breaks : IsFalse (keeps_law_at law rows k)
  pub first : (j : ℕ) → j < k → IsTrue (keeps_law_at law rows j)

abbrev pub broken_at : LawFault → ℕ
broken_at (Broken k) = k

-- the values of 2 to 501 speeds, each of at most 10^15 either way
pub record IsTable (rows : List ℤ) : Type 0 where
  pub some : 2 ≤ length rows
  pub few : length rows ≤ 501
  pub most : (k : ℕ) → k ≤ top_of rows → row rows k ≤ℤ pos greatest_value
  pub least : (k : ℕ) → k ≤ top_of rows → neg_ℤ (pos greatest_value) ≤ℤ row rows k

-- the least of the values at whole km/h
pub record IsLeastRow (rows : List ℤ) (least : ℤ) : Type 0 where
  pub each : (k : ℕ) → k ≤ top_of rows → least ≤ℤ row rows k
  pub some : (k : ℕ) × (k ≤ top_of rows) × (least ≡ row rows k)

-- what contracts see of bands: the values by whole km/h, and their law
pub record BandTable : Type 0 where
  pub rows : List ℤ
  pub law : Law

-- a table that keeps its law
pub record IsLawful (table : BandTable) : Type 0 where
  pub in_range : IsTable table.rows
  pub lawful : KeepsLaw table.law table.rows
