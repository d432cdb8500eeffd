use Rattle.std.proofs.Common.{◌∷◌, [], rules}
use Rattle.run_files.specs.Files.{edits_files, line_file, plan_file, stock_file}
use Rattle.run_files.specs.Loads.{name_in}
use Rattle.run_files.proofs.LoadFacts.{AreInForce-lie, Loads-all, Loads-behind, Loads-first, Loads-orders}
use Rattle.run_files.proofs.files.load_case.Goals as goal

pub returns-in_err-line-clause-loads : goal.returns-in_err-line-clause-loads
returns-in_err-line-clause-loads g c =
    let form = c.args.form.now in
    Loads-first (line_file form.line.now ∷ stock_file form.stock.now ∷ []) (plan_file form.line.now form.plan.now ∷ edits_files form.line.now (name_in form.edits)) (g.S.Shelf.told c.args.shelf.now)
    (g.S.Shelf.told c.load_both.new.shelf) c.in_err-line.field-0.0 c.from_residual.result (search rules) c.in_err-line.ensures.loads

pub returns-in_err-plan-clause-loads : goal.returns-in_err-plan-clause-loads
returns-in_err-plan-clause-loads g c =
    let form = c.args.form.now in
    let both = c.in_ok-line.ensures.loads in
    Loads-behind (line_file form.line.now ∷ stock_file form.stock.now ∷ []) (plan_file form.line.now form.plan.now ∷ edits_files form.line.now (name_in form.edits)) (g.S.Shelf.told c.args.shelf.now)
    (g.S.Shelf.told c.load_both.new.shelf) (g.S.Shelf.told c.load_orders.new.shelf) c.in_err-plan.field-0.0 _ c.from_residual-in_err-plan.result (search rules) both
    (Loads-orders form.line.now form.plan.now (name_in form.edits) c.in_ok-line.line (g.S.Shelf.told c.args.shelf.now) (g.S.Shelf.told c.load_both.new.shelf) (g.S.Shelf.told c.load_orders.new.shelf) _
    both.same c.in_ok-line.ensures.line c.in_err-plan.ensures.loads)

pub returns-clause-loads : goal.returns-clause-loads
returns-clause-loads g c =
    let form = c.args.form.now in
    let both = c.in_ok-line.ensures.loads in
    Loads-all (line_file form.line.now ∷ stock_file form.stock.now ∷ []) (plan_file form.line.now form.plan.now ∷ edits_files form.line.now (name_in form.edits)) (g.S.Shelf.told c.args.shelf.now)
    (g.S.Shelf.told c.load_both.new.shelf) (g.S.Shelf.told c.load_orders.new.shelf) _ _ _ both
    (Loads-orders form.line.now form.plan.now (name_in form.edits) c.in_ok-line.line (g.S.Shelf.told c.args.shelf.now) (g.S.Shelf.told c.load_both.new.shelf) (g.S.Shelf.told c.load_orders.new.shelf) _
    both.same c.in_ok-line.ensures.line c.in_ok-plan.ensures.loads)

pub invariant_of-result : goal.invariant_of-result
invariant_of-result g c = record {
  lies = c.in_ok-plan.ensures.plan.kept.1;
  fast = c.in_ok-line.ensures.stock.kept.fast;
  short = c.in_ok-line.ensures.line.kept.long;
  placed = AreInForce-lie c.in_ok-line.line (name_in c.args.form.now.edits) _ c.in_ok-plan.force.pairs c.in_ok-plan.ensures.force;
}
