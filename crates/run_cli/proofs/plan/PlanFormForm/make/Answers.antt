use Rattle.run_cli.specs.Envelope.{reaches-IsEnvelope}
use Rattle.run_cli.specs.Plan.{IsTimed}
use Rattle.run_cli.proofs.CertFacts.{driven-certificate}
use Rattle.run_cli.proofs.TimeFacts.{IfOk-along, timed-answers}
use Rattle.run_cli.proofs.plan.PlanFormForm.make.Goals as goal

pub returns-in_ok-drive-in-Envelope-clause-right : goal.returns-in_ok-drive-in-Envelope-clause-right
returns-in_ok-drive-in-Envelope-clause-right g c =
    let made = c.in_ok-drive-in-Envelope in
    let case = c.args.case in
    rw c.in-Envelope.is (reaches-IsEnvelope case.line case.stock case.plan case.force.pairs made.drive.speeds.items made.drive.reach made.ensures.reaches)

pub returns-in_ok-drive-in-Cert-clause-right : goal.returns-in_ok-drive-in-Cert-clause-right
returns-in_ok-drive-in-Cert-clause-right g c =
    let made = c.in_ok-drive-in-Cert in
    let case = c.args.case in
    let run = made.drive in
    rw (c.in-Cert.is, c.of.ensures)
    (driven-certificate case.line case.stock case.plan case.force.pairs run.brakes.items run.speeds.items run.reach case.fast case.short made.ensures.monotone made.ensures.brakes made.ensures.reaches
    made.ensures.known)

pub returns-in_ok-envelope-in-Timetable-clause-right : goal.returns-in_ok-envelope-in-Timetable-clause-right
returns-in_ok-envelope-in-Timetable-clause-right g c =
    let made = c.in_ok-envelope-in-Timetable in
    let case = c.args.case in
    IfOk-along c.timed.result (IsTimed made.envelope) _ (λ r is.
    rw c.in-Timetable.is (timed-answers made.envelope r case.line case.stock case.plan case.force.pairs made.ensures.case case.fast made.ensures.kept is)) c.timed.ensures.timed
