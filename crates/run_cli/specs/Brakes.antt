-- What the form `brakes` means.
use Rattle.std.specs.Prelude.{ℕ, ◌+◌, ◌*◌, List, [], Option}
use Rattle.std.proofs.Common.{refl, arith}
use Rattle.case_rules.specs.Case.{train_rule}
use Rattle.incr_envelope.specs.Envelope.{caps_under}
use Rattle.line_tables.specs.Line.{LineView}
use Rattle.plan_tables.specs.Plan.{empty_plan}
use Rattle.report_text.specs.Texts.{list_text}
use Rattle.run_io.specs.Fetches.{Files}
use Rattle.run_rules.specs.Runs.{IsBrakingList}
use Rattle.run_words.specs.declared.requests.BrakesForm.{BrakesForm}
use Rattle.stock_tables.specs.Stock.{StockView}
use Rattle.run_files.specs.Files.{AreTables}
use Rattle.run_files.specs.declared.status.Status.TheVariants.{Done}
use Rattle.run_files.specs.declared.status.Status.{Status}
use Rattle.run_cli.specs.FileForms.{IsDone, train_form}
use Rattle.run_cli.specs.FileLaws.{is_done, cells_allow, train_meant}
use Rattle.run_cli.specs.Meanings.{Is, Meaning}
use Rattle.run_cli.specs.Serves.{IsMeant}
use Rattle.run_cli.specs.declared.report.ListReport.{ListReport}

-- the braking list of the train on the line, where it stands at both ends
pub record IsBrakes (line : LineView) (stock : StockView) (s : Status) (t : List ℕ) : Type 0 where
  pub list : List ℕ
  pub is_list : IsBrakingList (train_rule line stock) (caps_under line stock empty_plan []) list
  pub is : Is Done (list_text list) s t

-- what the form means
abbrev pub brakes_meaning : List ℕ → List ℕ → Meaning
brakes_meaning line_name stock_name =
    train_form line_name stock_name IsBrakes IsDone (λ cells. 33 * (cells + 1))

-- the report is what the form means
pub brakes_means : (f : BrakesForm) (told : Option Files) (both : LineView × StockView) (r : ListReport)
    → AreTables f.line.now f.stock.now told both
    → IsBrakingList (train_rule both.0 both.1) (caps_under both.0 both.1 empty_plan []) r.numbers.items
    → IsMeant (brakes_meaning f.line.now f.stock.now) told Done (list_text r.numbers.items)
brakes_means f told both r at is =
    train_meant f.line.now f.stock.now IsBrakes IsDone (λ cells. 33 * (cells + 1)) told both Done (list_text r.numbers.items) at
    (record { list = r.numbers.items; is_list = is; is = is_done (list_text r.numbers.items) (list_text r.numbers.items) refl }) refl refl

pub brakes_allows : (f : BrakesForm) (told : Option Files) (both : LineView × StockView)
    → AreTables f.line.now f.stock.now told both
    → (brakes_meaning f.line.now f.stock.now).steps told [] (33 * (both.0.length + 1))
brakes_allows f told both at = cells_allow (λ cells. 33 * (cells + 1)) (λ a b h. omega (arith, h)) told f.line.now both.0 at.0
