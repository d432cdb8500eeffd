-- That the readers' faults refuse the files that they read.
use Rattle.std.proofs.Common.{ℕ, List, Ok, Err, Result, refl, inl, inr}
use Rattle.certificate.specs.Reading.{read_as_cert}
use Rattle.certificate.specs.Texts.{CertView}
use Rattle.certificate.specs.declared.reading.CertText.{CertText}
use Rattle.certificate.specs.declared.reading.CertText.TheVariants as cert_fault
use Rattle.line_tables.specs.LineFile as line
use Rattle.line_tables.specs.Line.{LineView}
use Rattle.line_tables.specs.declared.LineFault.{LineFault}
use Rattle.line_tables.specs.declared.LineFault.TheVariants as line_fault
use Rattle.plan_tables.specs.PlanFile as plan
use Rattle.plan_tables.specs.Plan.{PlanView}
use Rattle.plan_tables.specs.declared.PlanFault.{PlanFault}
use Rattle.plan_tables.specs.declared.PlanFault.TheVariants as plan_fault
use Rattle.restrictions.specs.Edits.{restrictions_in}
use Rattle.restrictions.specs.declared.edits.EditsFault.{EditsFault}
use Rattle.restrictions.specs.declared.edits.EditsFault.TheVariants as edits_fault
use Rattle.stock_tables.specs.StockFile as stock
use Rattle.stock_tables.specs.Stock.{StockView}
use Rattle.stock_tables.specs.declared.StockFault.{StockFault}
use Rattle.stock_tables.specs.declared.StockFault.TheVariants as stock_fault
use Rattle.run_files.specs.Files.{cert_reading, edits_reading, line_reading, plan_reading, stock_reading, with_status}
use Rattle.run_files.specs.Loads.{MayRefuse}
use Rattle.run_files.specs.Statuses.{cert_number, cert_status, edits_number, edits_status, line_number, line_status, plan_number, plan_status, stock_number, stock_status}

line_refused : (r : Result LineView LineFault) → MayRefuse line_number (with_status line_status r)
line_refused (Ok table) = tt
line_refused (Err line_fault.Memory) = inl refl
line_refused (Err line_fault.Missing) = inr (inl (_, (_, refl)))
line_refused (Err (line_fault.Bad place rule)) = inr (inl (_, (_, refl)))

pub line_refuses : (bytes : List ℕ) → MayRefuse line_reading.number (line_reading.read bytes)
line_refuses bytes = line_refused (line.read_as_line bytes)

stock_refused : (r : Result StockView StockFault) → MayRefuse stock_number (with_status stock_status r)
stock_refused (Ok table) = tt
stock_refused (Err stock_fault.Memory) = inl refl
stock_refused (Err stock_fault.NotToml) = inr (inl (_, (_, refl)))
stock_refused (Err (stock_fault.Key key rule)) = inr (inl (_, (_, refl)))
stock_refused (Err (stock_fault.Law table k)) = inr (inl (_, (_, refl)))

pub stock_refuses : (bytes : List ℕ) → MayRefuse stock_reading.number (stock_reading.read bytes)
stock_refuses bytes = stock_refused (stock.read_as_stock bytes)

plan_refused : (r : Result PlanView PlanFault) → MayRefuse plan_number (with_status plan_status r)
plan_refused (Ok table) = tt
plan_refused (Err plan_fault.Memory) = inl refl
plan_refused (Err (plan_fault.Bad place rule)) = inr (inl (_, (_, refl)))

pub plan_refuses : (line : LineView) (bytes : List ℕ) → MayRefuse (plan_reading line).number ((plan_reading line).read bytes)
plan_refuses line bytes = plan_refused (plan.read_as_plan line bytes)

edits_refused : {T : Type 0} (r : Result T EditsFault) → MayRefuse edits_number (with_status edits_status r)
edits_refused (Ok table) = tt
edits_refused (Err edits_fault.Memory) = inl refl
edits_refused (Err (edits_fault.Bad place code)) = inr (inl (_, (_, refl)))

pub edits_refuses : (line : LineView) (bytes : List ℕ) → MayRefuse (edits_reading line).number ((edits_reading line).read bytes)
edits_refuses line bytes = edits_refused (restrictions_in line.length bytes)

cert_refused : (r : Result CertView CertText) → MayRefuse cert_number (with_status cert_status r)
cert_refused (Ok table) = tt
cert_refused (Err cert_fault.Memory) = inl refl
cert_refused (Err (cert_fault.Bad place rule)) = inr (inl (_, (_, refl)))

pub cert_refuses : (bytes : List ℕ) → MayRefuse cert_reading.number (cert_reading.read bytes)
cert_refuses bytes = cert_refused (read_as_cert bytes)
