use Rattle.std.proofs.Common.{◌∷◌, [], rules}
use Rattle.run_files.specs.Files.{line_file, stock_file}
use Rattle.run_files.proofs.LoadFacts.{Loads-behind, Loads-first}
use Rattle.run_files.proofs.files.load_both.Goals as goal

pub returns-in_err-line-clause-loads : goal.returns-in_err-line-clause-loads
returns-in_err-line-clause-loads g c =
    Loads-first (line_file c.args.line_name.now ∷ []) (stock_file c.args.stock_name.now ∷ []) (g.S.Shelf.told c.args.shelf.now) (g.S.Shelf.told c.load_line.new.shelf)
    c.in_err-line.field-0.0 c.from_residual.result (search rules) c.in_err-line.ensures.loads

pub returns-in_err-stock-clause-loads : goal.returns-in_err-stock-clause-loads
returns-in_err-stock-clause-loads g c =
    Loads-behind (line_file c.args.line_name.now ∷ []) (stock_file c.args.stock_name.now ∷ []) (g.S.Shelf.told c.args.shelf.now) (g.S.Shelf.told c.load_line.new.shelf)
    (g.S.Shelf.told c.load_stock.new.shelf) c.in_err-stock.field-0.0 c.in_ok-line.line c.from_residual-in_err-stock.result (search rules) c.in_ok-line.ensures.loads
    c.in_err-stock.ensures.loads
