-- What is known of the value of a key.
use Rattle.std.proofs.Common.{◌≡◌, ℕ, Result, Ok, Err, IfOk}
use Rattle.stock_tables.specs.declared.StockFault.{StockFault}
use Rattle.stock_tables.specs.declared.document.KeyFault.{KeyFault}
use Rattle.stock_tables.specs.declared.document.KeyFault.TheVariants.{Memory, Rule}
use Rattle.stock_tables.specs.StockFile.{at_key}

-- what holds of the value that was read holds of the value that is handed on
pub at_key-of : {A : Type 0} (number : ℕ) (read : Result A KeyFault) (result : Result A StockFault) (value : A) (P : A → Type 0)
    → result ≡ at_key number read → result ≡ Ok value → IfOk read P → P value
at_key-of number (Ok x) result value P e w h = let same : x ≡ value = cc in rw (← same) h
at_key-of number (Err (Rule rule)) result value P e w h = cc
at_key-of number (Err Memory) result value P e w h = cc
