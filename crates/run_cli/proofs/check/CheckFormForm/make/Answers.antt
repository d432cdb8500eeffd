use Rattle.std.proofs.Common.{◌≡◌, ap}
use Rattle.case_rules.specs.Case.{train_rule}
use Rattle.incr_envelope.specs.Envelope.{caps_under}
use Rattle.limit_profile.specs.Profile.{caps}
use Rattle.step_rule.specs.Motion.{step_rule_of}
use Rattle.run_cli.proofs.CertFacts.{checked-answers}
use Rattle.run_cli.proofs.check.CheckFormForm.make.Goals as goal

pub returns-clause-right : goal.returns-clause-right
returns-clause-right g c =
    let case = c.args.claim.case in
    let both = c.in_ok-limits in
    let rule : step_rule_of both.rule ≡ train_rule case.line case.stock = ap step_rule_of both.ensures.motion in
    let limits : caps both.limits ≡ caps_under case.line case.stock case.plan case.force.pairs = rw (c.deref.ensures.value, c.in_ok-zones.ensures.zones) at both.ensures.caps in
    let found = c.check-found.ensures in
    checked-answers case.line case.stock case.plan case.force.pairs c.args.claim.cert c.check-found.result found.verdict (rw (rule, limits) at found.valid) (rw (rule, limits) at found.right) (rw (rule, limits) at found.broken)
