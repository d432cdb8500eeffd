use Rattle.std.proofs.Common.{◌≡◌, Err, rules}
use Rattle.run_files.proofs.TextFacts.{stops_plan, stops_stock}
use Rattle.run_files.proofs.files.read_case.Goals as goal

pub returns-in_err-stock-clause-stops : goal.returns-in_err-stock-clause-stops
returns-in_err-stock-clause-stops c =
    let s = c.in_err-stock.field-0.0 in
    let answer : c.from_residual-in_err-stock.result ≡ Err s = search rules in
    rw answer (stops_stock c.args.line.now c.args.stock.now c.args.plan.now c.in_ok-line.line s c.in_ok-line.ensures.reads c.in_err-stock.ensures.reads)

pub returns-in_err-plan-clause-stops : goal.returns-in_err-plan-clause-stops
returns-in_err-plan-clause-stops c =
    let s = c.in_err-plan.field-0.0 in
    let answer : c.from_residual-in_err-plan.result ≡ Err s = search rules in
    rw answer
    (stops_plan c.args.line.now c.args.stock.now c.args.plan.now c.in_ok-line.line c.in_ok-stock.stock s c.in_ok-line.ensures.reads c.in_ok-stock.ensures.reads c.in_err-plan.ensures.reads)
