-- That texts are read one after another, up to the first that is in the way.
use Rattle.std.proofs.Common.{◌≡◌, ◌⊎◌, ℕ, List, Result, Ok, Err, IfErr, refl, sym, inl, inr}
use Rattle.line_tables.specs.Line.{LineView}
use Rattle.stock_tables.specs.Stock.{StockView}
use Rattle.unit_rules.specs.Memory.{Gives}
use Rattle.run_files.specs.CaseTexts.{StopsTexts}
use Rattle.run_files.specs.Files.{IsRefusal, line_reading, plan_reading, stock_reading}
use Rattle.run_files.specs.ReaderLaws.{plan_refuses, stock_refuses}
use Rattle.run_files.specs.Statuses.{extent_of}
use Rattle.run_files.specs.Statuses.Extent.{whole}
use Rattle.run_files.specs.declared.status.Status.{Status}
use Rattle.run_files.specs.declared.status.Status.TheVariants.{Memory}

-- a table that a reader gives is what the bytes read as
read_table : {T : Type 0} (meant : Result T Status) (t : T) → Gives (Err Memory) meant (Ok t) → meant ≡ Ok t
read_table {T} meant t (inl e) = absurd (cc e)
read_table {T} meant t (inr e) = sym e

-- and a fault is want of memory, or that of the bytes
read_fault : {T : Type 0} (meant : Result T Status) (s : Status) → Gives (Err Memory) meant (Err s) → (s ≡ Memory) ⊎ (meant ≡ Err s)
read_fault {T} meant s (inl e) = let same : s ≡ Memory = cc in inl same
read_fault {T} meant s (inr e) = inr (sym e)

-- a refusal has a text of its own
refusal_whole : (number : ℕ) (s : Status) → IsRefusal number s → extent_of s ≡ whole
refusal_whole number s (inl (place, (rule, is))) = rw is refl
refusal_whole number s (inr is) = rw is refl

-- a fault of the bytes has one, or is want of memory
fault_whole : {T : Type 0} (number : ℕ) (meant : Result T Status) (s : Status) → IfErr meant (λ r. (r ≡ Memory) ⊎ IsRefusal number r) → meant ≡ Err s → (s ≡ Memory) ⊎ (extent_of s ≡ whole)
fault_whole {T} number meant s may is = by (rw is at may)
  where
    by : (s ≡ Memory) ⊎ IsRefusal number s → (s ≡ Memory) ⊎ (extent_of s ≡ whole)
    by (inl memory) = inl memory
    by (inr refusal) = inr (refusal_whole number s refusal)

pub stops_stock : (line stock plan : List ℕ) (l : LineView) (s : Status) → Gives (Err Memory) (line_reading.read line) (Ok l) → Gives (Err Memory) (stock_reading.read stock) (Err s) → StopsTexts line stock plan s
stops_stock line stock plan l s first gives = elim (read_fault (stock_reading.read stock) s gives) [
  | inl memory ↦ inl memory
  | inr is ↦
      let line_is = read_table (line_reading.read line) l first in
      elim (fault_whole stock_reading.number (stock_reading.read stock) s (stock_refuses stock) is) [ inl memory ↦ inl memory | inr own ↦ inr (own, rw (line_is, is) refl) ]
]

pub stops_plan : (line stock plan : List ℕ) (l : LineView) (t : StockView) (s : Status) → Gives (Err Memory) (line_reading.read line) (Ok l) → Gives (Err Memory) (stock_reading.read stock) (Ok t)
    → Gives (Err Memory) ((plan_reading l).read plan) (Err s) → StopsTexts line stock plan s
stops_plan line stock plan l t s first second gives = elim (read_fault ((plan_reading l).read plan) s gives) [
  | inl memory ↦ inl memory
  | inr is ↦
      let line_is = read_table (line_reading.read line) l first in
      let stock_is = read_table (stock_reading.read stock) t second in
      elim (fault_whole (plan_reading l).number ((plan_reading l).read plan) s (plan_refuses l plan) is) [ inl memory ↦ inl memory | inr own ↦ inr (own, rw (line_is, stock_is, is) refl) ]
]
