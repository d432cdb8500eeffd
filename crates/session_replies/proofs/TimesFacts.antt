-- That the texts of answers are written as they are told.
use Rattle.std.proofs.Common.{◌≡◌, ◌≤◌, ℕ, ◌+◌, ◌*◌, List, Result, Err, OnErr, OnOk, arith, refl, subst, ◌∙◌}
use Rattle.run_io.proofs.Written.{Writes-nil}
use Rattle.run_io.specs.Told.{HasCause, Told, Writes, WritesFront}
use Rattle.run_io.specs.declared.Failed.{Failed}
use Rattle.incr_envelope.specs.Envelope.{EnvelopeView}
use Rattle.allowances.specs.Rows.{row_count, rows_of, section_count}
use Rattle.allowances.specs.declared.Row.{Row}
use Rattle.plan_tables.specs.Plan.{PlanView}
use Rattle.report_text.specs.Texts.{reach_text}
use Rattle.report_text.specs.Timetables.{timetable_text}
use Rattle.session_lines.specs.declared.Stop.TheVariants as stop
use Rattle.time_brackets.specs.Sums.{block_cells}
use Rattle.unit_rules.specs.declared.Reach.TheVariants as reach
use Rattle.session_replies.proofs.AnswerFacts.{IsWritten-replied}
use Rattle.session_replies.specs.Answered.{IsWritten, Tells, replied_by}
use Rattle.session_replies.specs.declared.answers.Answer.TheVariants as answer

-- a timetable is told by its rows
pub Tells-times : (v : EnvelopeView) (plan : PlanView) (metres : ℕ) (e : List ℕ) (rows : List Row) (old new : Told (List ℕ)) (before now : ℕ) (w : Result (Unit {0}) Failed) → v.reach ≡ reach.Whole → plan ≡ v.plan
    → metres ≡ v.line.length → e ≡ v.speeds → rows ≡ rows_of plan metres e → now ≤ before + block_cells * (row_count plan + 2 * section_count plan)
    → OnOk w (Writes old new (timetable_text plan rows)) → OnErr w (WritesFront old new (timetable_text plan rows)) → HasCause old new w → Tells v answer.Timetable old new before now (replied_by w)
Tells-times v plan metres e rows old new before now w whole same points speeds are cost ok failed cause =
    let own : rows ≡ rows_of v.plan v.line.length v.speeds = are ∙ (λ k. rows_of (same k) (points k) (speeds k)) in
    let written = IsWritten-replied answer.Timetable old new (timetable_text plan rows) w ok failed cause in
    let text = subst (λ (t : List ℕ). IsWritten answer.Timetable old new t (replied_by w)) (λ k. timetable_text (same k) (own k)) written in
    let steps = subst (λ (p : PlanView). now ≤ before + block_cells * (row_count p + 2 * section_count p)) same cost in
    record { written = rw whole text; cost = steps }

-- or by the stall
pub Tells-stall : (v : EnvelopeView) (k : ℕ) (old new : Told (List ℕ)) (count : ℕ) (w : Result (Unit {0}) Failed) → v.reach ≡ reach.Stalled k → OnOk w (Writes old new (reach_text (reach.Stalled k)))
    → OnErr w (WritesFront old new (reach_text (reach.Stalled k))) → HasCause old new w → Tells v answer.Timetable old new count count (replied_by w)
Tells-stall v k old new count w stalled ok failed cause =
    let written = IsWritten-replied answer.Timetable old new (reach_text (reach.Stalled k)) w ok failed cause in
    record { written = rw stalled written; cost = omega arith }

-- or it wants memory, and nothing was written
pub Tells-wanted : (v : EnvelopeView) (old : Told (List ℕ)) (before now : ℕ) → now ≤ before + block_cells * (row_count v.plan + 2 * section_count v.plan) → Tells v answer.Timetable old old before now (Err stop.Memory)
Tells-wanted v old before now cost = record { written = record { later = omega arith; text = (refl, Writes-nil old) }; cost = cost }
