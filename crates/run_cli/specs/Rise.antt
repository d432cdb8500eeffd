-- What the form `rise` means.
use Rattle.std.specs.Prelude.{ℕ, ◌*◌, min, List, [], ◌∷◌, ℤ, pos, ◌≡◌, Option}
use Rattle.std.proofs.Common.{refl, arith}
use Rattle.case_rules.specs.Case.{train_pulls, train_rule}
use Rattle.line_tables.specs.Line.{LineView}
use Rattle.run_io.specs.Fetches.{Files}
use Rattle.run_io.specs.Texts.{lines_below, numbers_text}
use Rattle.run_rules.specs.Grids.{row}
use Rattle.run_rules.specs.Runs.{StepRule}
use Rattle.run_rules.specs.Speeds.{squared}
use Rattle.run_words.specs.declared.requests.RiseForm.{RiseForm}
use Rattle.step_rule.specs.Motion.{cells_of, step_rule_of}
use Rattle.stock_tables.specs.Stock.{StockView}
use Rattle.run_files.specs.Files.{AreTables}
use Rattle.run_files.specs.declared.status.Status.TheVariants.{Done}
use Rattle.run_cli.specs.FileForms.{IsDone, train_form}
use Rattle.run_cli.specs.FileLaws.{is_done, cells_allow, train_meant}
use Rattle.run_cli.specs.Meanings.{Is, Meaning}
use Rattle.run_cli.specs.Serves.{IsMeant}
use Rattle.run_cli.specs.declared.rise_report.RiseReport.{RiseReport}

-- a cell, the pull there, and the greatest and the least squared speed after it from a squared speed before it
abbrev pub rise_line : StepRule → List ℤ → ℕ → ℕ → List ℕ
rise_line rule pulls before cell =
    numbers_text (pos cell ∷ row pulls cell ∷ rule.up cell before ∷ rule.low cell before ∷ [])

-- a line for each cell, from so many km/h, or from the top speed where that is less
abbrev pub rise_text : LineView → StockView → ℕ → List ℕ
rise_text line stock kmh =
    let before = min (squared stock.top) (squared kmh) in
    lines_below (rise_line (train_rule line stock) (train_pulls line stock) before) line.length

-- what the form means
abbrev pub rise_meaning : List ℕ → List ℕ → ℕ → Meaning
rise_meaning line_name stock_name kmh =
    train_form line_name stock_name (λ line stock. Is Done (rise_text line stock kmh)) IsDone (λ cells. 2 * cells)

-- what the report shows
abbrev pub shown_rise : RiseReport → List ℕ
shown_rise r = lines_below (rise_line (step_rule_of r.rule) r.pulls.items r.before) (cells_of r.rule)

-- that is what the form means
pub rise_means : (f : RiseForm) (told : Option Files) (both : LineView × StockView) (r : RiseReport)
    → AreTables f.line.now f.stock.now told both → shown_rise r ≡ rise_text both.0 both.1 f.kmh
    → IsMeant (rise_meaning f.line.now f.stock.now f.kmh) told Done (shown_rise r)
rise_means f told both r at is =
    train_meant f.line.now f.stock.now (λ l s. Is Done (rise_text l s f.kmh)) IsDone (λ cells. 2 * cells) told both Done (shown_rise r) at
    (is_done (shown_rise r) (rise_text both.0 both.1 f.kmh) is) refl refl

pub rise_allows : (f : RiseForm) (told : Option Files) (both : LineView × StockView)
    → AreTables f.line.now f.stock.now told both
    → (rise_meaning f.line.now f.stock.now f.kmh).steps told [] (2 * both.0.length)
rise_allows f told both at = cells_allow (λ cells. 2 * cells) (λ a b h. omega (arith, h)) told f.line.now both.0 at.0
