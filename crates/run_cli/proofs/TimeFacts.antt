-- That a timetable answers.
use Rattle.std.proofs.Common.{◌≡◌, ℕ, ◌≤◌, List, length, take, Result, Ok, Err, IfOk, arith, refl, subst, inl, inr}
use Rattle.incr_envelope.specs.Envelope.{EnvelopeView, IsFromScratch, IsOf, caps_in, rule_in}
use Rattle.report_text.specs.Texts.{reach_text}
use Rattle.unit_rules.specs.declared.Zone.{Zone}
use Rattle.line_tables.specs.Line.{LineView}
use Rattle.plan_tables.specs.Plan.{PlanView}
use Rattle.run_rules.specs.Runs.{ReachesAs}
use Rattle.stock_tables.specs.Stock.{StockView}
use Rattle.unit_rules.specs.Limits.{greatest_speed}
use Rattle.unit_rules.specs.declared.Reach.{Reach}
use Rattle.unit_rules.specs.declared.Reach.TheVariants as reach
use Rattle.session_replies.specs.CaseLaws.{length-caps_under, soonest}
use Rattle.run_files.specs.declared.status.Status.TheVariants.{Stalled}
use Rattle.run_cli.specs.Plan.{IsTimed, IsTimetable, found_status, found_text}
use Rattle.run_cli.specs.declared.report.PlanReport.{PlanReport}
use Rattle.run_cli.specs.declared.report.PlanReport.TheVariants.{Cert, Speeds, Stall, Times}

-- an envelope that is stalled answers as a stall
stalled : (e : EnvelopeView) (r : Reach) (k : ℕ) → e.stock.top ≤ greatest_speed → r ≡ reach.Stalled k → ReachesAs (rule_in e) (caps_in e) e.speeds r
    → IsTimetable e.line e.stock e.plan e.force (Stalled k) (reach_text (reach.Stalled k))
stalled e reach.Whole k fast same h = absurd (cc same)
stalled e (reach.Stalled j) k fast same h =
    let one : j ≡ k = cc in
    let here = subst (λ (i : ℕ). ReachesAs (rule_in e) (caps_in e) e.speeds (reach.Stalled i)) one h in
    let on = here.0.on_line.1 in
    let points = length-caps_under e.line e.stock e.plan e.force in
    inr (record {
      list = take k e.speeds;
      stall = record { point = k; is_stalled = here.0; is = record { status_is = refl; text_is = refl } };
      is_list = here.1;
      soonest = soonest e.line e.stock e.plan e.force (take k e.speeds) k fast (omega (arith, on, points)) here.1.greatest;
    })

-- the timetable of an envelope, or its stall, is what is meant
timed-IsTimetable : (e : EnvelopeView) (r : PlanReport) → e.stock.top ≤ greatest_speed → IsFromScratch e → IsTimed e r → IsTimetable e.line e.stock e.plan e.force (found_status r) (found_text r)
timed-IsTimetable e (Speeds r) fast kept timed = absurd timed
timed-IsTimetable e (Cert r) fast kept timed = absurd timed
timed-IsTimetable e (Stall k) fast kept timed = stalled e e.reach k fast timed kept.reaches
timed-IsTimetable e (Times r) fast kept (whole, same, rows) =
    let greatest = rw whole at kept.reaches in
    let points = length-caps_under e.line e.stock e.plan e.force in
    inl (record {
      list = e.speeds;
      is_list = greatest;
      soonest = rw points at (soonest e.line e.stock e.plan e.force e.speeds (length (caps_in e)) fast (omega (arith, points)) greatest.greatest);
      is = record { status_is = refl; text_is = rw (same, rows) refl };
    })

-- it is what is meant by the case of the envelope
pub timed-answers : (e : EnvelopeView) (r : PlanReport) (line : LineView) (stock : StockView) (plan : PlanView) (force : List (List ℕ × Zone)) → IsOf line stock plan force e → stock.top ≤ greatest_speed → IsFromScratch e
    → IsTimed e r → IsTimetable line stock plan force (found_status r) (found_text r)
timed-answers e r line stock plan force of fast kept timed =
    rw (of.same_line, of.same_stock, of.same_plan, of.in_force) at (timed-IsTimetable e r (rw of.same_stock fast) kept timed)

-- what follows from what is given, where it is given
pub IfOk-along : {T E : Type 0} (r : Result T E) (P Q : T → Type 0) → ((t : T) → P t → Q t) → IfOk r P → IfOk r Q
IfOk-along (Ok t) P Q f h = f t h
IfOk-along (Err e) P Q f h = h
