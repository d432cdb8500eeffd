use Rattle.std.proofs.Common.{◌≡◌, ◌∙◌, All, ap}
use Rattle.plan_tables.specs.Plan.{PlanView}
use Rattle.allowances.specs.Rows.{rows_of}
use Rattle.report_text.specs.Timetables.{IsCalled}
use Rattle.session_replies.proofs.RowFacts.{rows-called}
use Rattle.run_cli.proofs.plan.timed.Goals as goal

pub invariant_of-result : goal.invariant_of-result
invariant_of-result g c =
    let plan = c.args.envelope.plan in
    let rows : c.in_ok-rows.rows.items ≡ rows_of plan c.length-length.result c.speeds-speeds.result.now =
    c.in_ok-rows.ensures.rows ∙ ap (λ (p : PlanView). rows_of p c.length-length.result c.speeds-speeds.result.now) c.plan-plan.ensures.plan in
    let all : All (IsCalled plan) c.in_ok-rows.rows.items = rw rows (rows-called plan c.length-length.result c.speeds-speeds.result.now) in
    record { called = all }
