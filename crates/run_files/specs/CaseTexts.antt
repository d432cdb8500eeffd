-- A case that is read from texts at hand.
use Rattle.std.specs.Prelude.{ℕ, ◌≡◌, ◌⊎◌, List, Option, Some}
use Rattle.std.specs.Option.{option_or}
use Rattle.line_tables.specs.Line.{LineView}
use Rattle.plan_tables.specs.Plan.{PlanView}
use Rattle.stock_tables.specs.Stock.{StockView}
use Rattle.run_files.specs.Files.{fault_for, fault_of, line_reading, plan_reading, stock_reading, table_of}
use Rattle.run_files.specs.Statuses.{extent_of}
use Rattle.run_files.specs.Statuses.Extent.{whole}
use Rattle.run_files.specs.declared.status.Status.{Status}
use Rattle.run_files.specs.declared.status.Status.TheVariants.{Memory}

-- what is in the way of the texts of a line, a stock and a plan, in this order
abbrev pub fault_of_texts : List ℕ → List ℕ → List ℕ → Option Status
fault_of_texts line stock plan =
    option_or (fault_of (line_reading.read line))
    (option_or (fault_of (stock_reading.read stock)) (fault_for plan_reading (table_of (line_reading.read line)) plan))

-- a line, a stock and a plan are what the texts read as
pub record IsCaseOf (line stock plan : List ℕ) (l : LineView) (s : StockView) (p : PlanView) : Type 0 where
  pub is_line : table_of (line_reading.read line) ≡ Some l
  pub is_stock : table_of (stock_reading.read stock) ≡ Some s
  pub is_plan : table_of ((plan_reading l).read plan) ≡ Some p

-- why texts are not read: memory was wanted, or something is in the way, which has a text of its own
abbrev pub StopsTexts : List ℕ → List ℕ → List ℕ → Status → Type 0
StopsTexts line stock plan s = (s ≡ Memory) ⊎ ((extent_of s ≡ whole) × (fault_of_texts line stock plan ≡ Some s))
