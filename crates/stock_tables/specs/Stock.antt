-- What contracts see of a stock.
use Rattle.std.specs.Prelude.{ℕ, ◌≤◌, ◌≡◌, pos, ◌≤ℤ◌}
use Rattle.unit_rules.specs.Limits.{greatest_speed, longest_train}
use Rattle.run_rules.specs.Grids.{row, top_of}
use Rattle.table_laws.specs.Laws.{BandTable, IsLawful}
use Rattle.table_laws.specs.declared.Law.{Law}
use Rattle.table_laws.specs.declared.Law.TheVariants.{Drop, Climb}

-- a stock: its mass and moved mass in kg, its length in metres, its top speed in km/h, and its tables of push and braking
pub record StockView : Type 0 where
  pub mass : ℕ
  pub moved_mass : ℕ
  pub length : ℕ
  pub top : ℕ
  pub push : BandTable
  pub brake : BandTable

-- a lawful table up to a top speed
pub record IsTableTo (top : ℕ) (law : Law) (table : BandTable) : Type 0 where
  pub ends : top_of table.rows ≡ top
  pub under : table.law ≡ law
  pub kept : IsLawful table

-- the braking takes 12960 or more at each speed
abbrev pub IsStrong : ℕ → BandTable → Type 0
IsStrong top brake = (k : ℕ) → k ≤ top → pos 12960 ≤ℤ row brake.rows k

-- a stock in its ranges, with its tables up to its top speed: the push may drop by the moved mass, and the braking climb by 1
pub record IsStock (s : StockView) : Type 0 where
  pub light : 1000 ≤ s.mass
  pub heavy : s.mass ≤ 20000000
  pub moved_light : 1000 ≤ s.moved_mass
  pub moved_heavy : s.moved_mass ≤ 26000000
  pub short : 1 ≤ s.length
  pub long : s.length ≤ longest_train
  pub slow : 1 ≤ s.top
  pub fast : s.top ≤ greatest_speed
  pub pushes : IsTableTo s.top (Drop s.moved_mass) s.push
  pub brakes : IsTableTo s.top Climb s.brake
  pub strong : IsStrong s.top s.brake
