-- The pulls of a train on a line.
use Rattle.std.proofs.Common.{◌≡◌, List, ℤ, length, refl}
use Rattle.std.proofs.lemmas.List.FromFn.{length-map-range_with_len}
use Rattle.line_tables.specs.Line.{LineView}
use Rattle.stock_tables.specs.Stock.{StockView}
use Rattle.train_mean.specs.Gradients.{gradients_under, pull_of}
use Rattle.case_rules.specs.Case.{train_pulls}

-- a pull for each cell
pub length-train_pulls : (line : LineView) (stock : StockView) (pulls : List ℤ) → pulls ≡ train_pulls line stock → length pulls ≡ line.length
length-train_pulls line stock pulls e =
    rw (e, length-map-range_with_len (λ cell. pull_of stock.mass stock.length (gradients_under line.slopes stock.length cell)) 0 line.length) refl
