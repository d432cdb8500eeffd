use Rattle.std.proofs.Common.{◌∷◌, [], rules}
use Rattle.run_files.specs.Files.{file_read, plan_reading}
use Rattle.run_files.specs.Loads.{edits_read, name_in}
use Rattle.run_files.proofs.LoadFacts.{Loads-all, Loads-behind, Loads-first}
use Rattle.run_files.proofs.files.load_orders.Goals as goal

pub returns-in_err-plan-clause-loads : goal.returns-in_err-plan-clause-loads
returns-in_err-plan-clause-loads g c =
    Loads-first (file_read (plan_reading c.args.line.now) c.args.plan_name.now ∷ []) (edits_read c.args.line.now (name_in c.args.edits_name)) (g.S.Shelf.told c.args.shelf.now)
    (g.S.Shelf.told c.load_file.new.shelf) c.in_err-plan.field-0.0 c.from_residual.result (search rules) c.in_err-plan.ensures.loads

pub returns-in_err-force-clause-loads : goal.returns-in_err-force-clause-loads
returns-in_err-force-clause-loads g c =
    Loads-behind (file_read (plan_reading c.args.line.now) c.args.plan_name.now ∷ []) (edits_read c.args.line.now (name_in c.args.edits_name)) (g.S.Shelf.told c.args.shelf.now)
    (g.S.Shelf.told c.load_file.new.shelf) (g.S.Shelf.told c.load_edits.new.shelf) c.in_err-force.field-0.0 c.in_ok-plan.plan c.from_residual-in_err-force.result (search rules) c.in_ok-plan.ensures.loads
    c.in_err-force.ensures.loads

pub returns-clause-loads : goal.returns-clause-loads
returns-clause-loads g c =
    Loads-all (file_read (plan_reading c.args.line.now) c.args.plan_name.now ∷ []) (edits_read c.args.line.now (name_in c.args.edits_name)) (g.S.Shelf.told c.args.shelf.now)
    (g.S.Shelf.told c.load_file.new.shelf) (g.S.Shelf.told c.load_edits.new.shelf) c.in_ok-plan.plan _ _ c.in_ok-plan.ensures.loads c.in_ok-force.ensures.loads
