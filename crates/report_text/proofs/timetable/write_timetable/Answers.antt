use Rattle.report_text.proofs.TimetableFacts.{parts_below}
use Rattle.report_text.proofs.timetable.write_timetable.Goals as goal

pub returns-clause-ok : goal.returns-clause-ok
returns-clause-ok g c = rw (parts_below c.args.plan.now c.args.rows.now) at c.write_rows.ensures.ok

pub returns-clause-failed : goal.returns-clause-failed
returns-clause-failed g c = rw (parts_below c.args.plan.now c.args.rows.now) at c.write_rows.ensures.failed
