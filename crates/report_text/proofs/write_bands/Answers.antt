use Rattle.std.proofs.Common.{◌≡◌, ◌+◌, suc, arith}
use Rattle.report_text.proofs.BandFacts.{bands-below}
use Rattle.report_text.proofs.write_bands.Goals as goal

pub returns-clause-ok : goal.returns-clause-ok
returns-clause-ok g c =
    let lines : c.top.result + 2 ≡ suc (c.args.stock.now.top + 1) = omega (arith, c.top.ensures.top) in
    rw (lines, bands-below c.args.stock.now (c.args.stock.now.top + 1)) at c.write_rows.ensures.ok

pub returns-clause-failed : goal.returns-clause-failed
returns-clause-failed g c =
    let lines : c.top.result + 2 ≡ suc (c.args.stock.now.top + 1) = omega (arith, c.top.ensures.top) in
    rw (lines, bands-below c.args.stock.now (c.args.stock.now.top + 1)) at c.write_rows.ensures.failed
