use Rattle.std.proofs.Common.{sym}
use Rattle.limit_profile.proofs.CapFacts.{caps-alike}
use Rattle.plan_tables.specs.Bounds.{bounds_of}
use Rattle.case_rules.specs.Case.{case_profile}
use Rattle.case_rules.proofs.course_on.Goals as goal

pub returns-clause-caps : goal.returns-clause-caps
returns-clause-caps c =
    let line = c.args.line.now in
    sym (caps-alike (case_profile line c.args.stock c.args.restrictions.now (bounds_of c.args.plan.now line.length)) c.in_ok-limits.limits c.in_ok-limits.ensures.profile)
