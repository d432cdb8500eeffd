use Rattle.std.proofs.Common.{arith}
use Rattle.case_rules.proofs.CaseFacts.{length-train_pulls}
use Rattle.case_rules.proofs.rule_by.Goals as goal

pub new-requires-clause-cells_least : goal.new-requires-clause-cells_least
new-requires-clause-cells_least c =
    let long = length-train_pulls c.args.line.now c.args.stock c.args.pulls.items c.requires.pulls in
    omega (arith, long, c.length-cells.ensures.kept.short, c.args.pulls.ok)

pub new-requires-clause-cells_most : goal.new-requires-clause-cells_most
new-requires-clause-cells_most c =
    let long = length-train_pulls c.args.line.now c.args.stock c.args.pulls.items c.requires.pulls in
    omega (arith, long, c.length-cells.ensures.kept.long, c.args.pulls.ok)

pub returns-clause-cells : goal.returns-clause-cells
returns-clause-cells c =
    let long = length-train_pulls c.args.line.now c.args.stock c.args.pulls.items c.requires.pulls in
    rw c.new.ensures long
