-- The lines of the tables of a train.
use Rattle.std.proofs.Common.{◌≡◌, ℕ, zero, suc, List, ◌++◌, sym, ap, ◌∙◌, append_assoc}
use Rattle.std.proofs.lemmas.List.{append-nil}
use Rattle.run_io.specs.Texts.{lines_below}
use Rattle.stock_tables.specs.Stock.{StockView}
use Rattle.report_text.specs.Texts.{bands_line, speed_line, train_line}

-- the lines of the whole km/h below a number, behind the first line
pub bands-below : (stock : StockView) (n : ℕ) → lines_below (bands_line stock) (suc n) ≡ train_line stock ++ lines_below (speed_line stock) n
bands-below stock zero = sym (append-nil (train_line stock))
bands-below stock (suc n) =
    ap (λ (q : List ℕ). q ++ speed_line stock n) (bands-below stock n) ∙ append_assoc (train_line stock) (lines_below (speed_line stock) n) (speed_line stock n)
