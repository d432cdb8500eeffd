use Rattle.std.proofs.Common.{◌∷◌, [], rules}
use Rattle.run_words.specs.Requests.{case_view}
use Rattle.run_files.specs.Files.{case_files, cert_file}
use Rattle.run_files.proofs.LoadFacts.{Loads-all, Loads-behind, Loads-first}
use Rattle.run_files.proofs.files.load_claim.Goals as goal

pub returns-in_err-case-clause-loads : goal.returns-in_err-case-clause-loads
returns-in_err-case-clause-loads g c =
    let form = c.args.form.now in
    Loads-first (case_files (case_view form.case)) (cert_file form.cert.now ∷ []) (g.S.Shelf.told c.args.shelf.now) (g.S.Shelf.told c.load_case.new.shelf)
    c.in_err-case.field-0.0 c.from_residual.result (search rules) c.in_err-case.ensures.loads

pub returns-in_err-cert-clause-loads : goal.returns-in_err-cert-clause-loads
returns-in_err-cert-clause-loads g c =
    let form = c.args.form.now in
    Loads-behind (case_files (case_view form.case)) (cert_file form.cert.now ∷ []) (g.S.Shelf.told c.args.shelf.now) (g.S.Shelf.told c.load_case.new.shelf) (g.S.Shelf.told c.load_file.new.shelf)
    c.in_err-cert.field-0.0 c.in_ok-case.case c.from_residual-in_err-cert.result (search rules) c.in_ok-case.ensures.loads c.in_err-cert.ensures.loads

pub returns-clause-loads : goal.returns-clause-loads
returns-clause-loads g c =
    let form = c.args.form.now in
    Loads-all (case_files (case_view form.case)) (cert_file form.cert.now ∷ []) (g.S.Shelf.told c.args.shelf.now) (g.S.Shelf.told c.load_case.new.shelf) (g.S.Shelf.told c.load_file.new.shelf)
    c.in_ok-case.case _ _ c.in_ok-case.ensures.loads c.in_ok-cert.ensures.loads
