use Rattle.run_io.proofs.LineFacts.{pieces-all}
use Rattle.report_text.proofs.write_numbers.Goals as goal

pub returns-clause-ok : goal.returns-clause-ok
returns-clause-ok g c = rw (pieces-all c.args.numbers.now) at c.write_rows.ensures.ok

pub returns-clause-failed : goal.returns-clause-failed
returns-clause-failed g c = rw (pieces-all c.args.numbers.now) at c.write_rows.ensures.failed
