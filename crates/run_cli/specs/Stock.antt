-- What the form `stock` means.
use Rattle.std.specs.Prelude.{ℕ, List, ◌≡◌, [], Option}
use Rattle.std.proofs.Common.{ap, arith}
use Rattle.report_text.specs.Texts.{bands_text}
use Rattle.run_io.specs.Fetches.{Files}
use Rattle.run_words.specs.declared.requests.StockForm.{StockForm}
use Rattle.stock_tables.specs.Stock.{StockView}
use Rattle.run_files.specs.Files.{IsRead, stock_reading}
use Rattle.run_files.specs.declared.status.Status.TheVariants.{Done}
use Rattle.run_cli.specs.FileForms.{stock_form}
use Rattle.run_cli.specs.FileLaws.{is_done, stock_meant}
use Rattle.run_cli.specs.Meanings.{Is, Meaning}
use Rattle.run_cli.specs.Serves.{IsMeant}
use Rattle.run_cli.specs.declared.report.StockReport.{StockReport}

-- what the form means
abbrev pub stock_meaning : List ℕ → Meaning
stock_meaning name = stock_form name (λ stock. Is Done (bands_text stock))

-- the report is what the form means
pub stock_means : (f : StockForm) (told : Option Files) (stock : StockView) (r : StockReport) → IsRead stock_reading told f.stock.now stock
    → r.stock ≡ stock → IsMeant (stock_meaning f.stock.now) told Done (bands_text r.stock)
stock_means f told stock r at is =
    stock_meant f.stock.now (λ s. Is Done (bands_text s)) told stock (bands_text r.stock) at
    (is_done (bands_text r.stock) (bands_text stock) (ap bands_text is))

pub stock_allows : (f : StockForm) (told : Option Files) (stock : StockView) → IsRead stock_reading told f.stock.now stock
    → (stock_meaning f.stock.now).steps told [] 0
stock_allows f told stock at = omega arith
