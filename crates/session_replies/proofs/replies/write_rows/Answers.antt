use Rattle.std.proofs.Common.{◌≡◌, ◌∙◌, ◌≤◌, ◌+◌, ◌*◌, All}
use Rattle.allowances.specs.Rows.{row_count, rows_of, section_count}
use Rattle.report_text.specs.Timetables.{IsCalled}
use Rattle.time_brackets.specs.Sums.{block_cells}
use Rattle.session_replies.proofs.RowFacts.{rows-called}
use Rattle.session_replies.proofs.TimesFacts.{Tells-times, Tells-wanted}
use Rattle.session_replies.proofs.replies.write_rows.Goals as goal

pub write_timetable-requires : goal.write_timetable-requires
write_timetable-requires g c =
    let plan = c.plan-plan.result.now in
    let rows : c.deref.result.now ≡ rows_of plan c.length-length.result c.speeds-speeds.result.now = c.deref.ensures.value ∙ c.in-Ok.ensures.rows in
    let all : All (IsCalled plan) c.deref.result.now = rw rows (rows-called plan c.length-length.result c.speeds-speeds.result.now) in
    all

pub returns : goal.returns
returns g c =
    let v = c.args.envelope.now in
    let before = g.K.Sink.told c.args.out.now in
    let after = g.K.Sink.told c.write_timetable.new.out in
    let rows : c.deref.result.now ≡ rows_of c.plan-plan.result.now c.length-length.result c.speeds-speeds.result.now = c.deref.ensures.value ∙ c.in-Ok.ensures.rows in
    let text = c.write_timetable.ensures in
    rw c.replied.ensures
    (Tells-times v c.plan-plan.result.now c.length-length.result c.speeds-speeds.result.now c.deref.result.now before after c.args.steps.now c.planned.new.steps c.write_timetable.result c.requires.whole
    c.plan-plan.ensures.plan (rw c.line.ensures.line at c.length-length.ensures.length) c.speeds-speeds.ensures.speeds rows c.planned.ensures.cost text.ok text.failed text.cause)

pub returns-in_default : goal.returns-in_default
returns-in_default g c =
    let v = c.args.envelope.now in
    let cost : c.planned.new.steps ≤ c.args.steps.now + block_cells * (row_count v.plan + 2 * section_count v.plan) = rw c.plan-plan.ensures.plan at c.planned.ensures.cost in
    Tells-wanted v (g.K.Sink.told c.args.out.now) c.args.steps.now c.planned.new.steps cost
