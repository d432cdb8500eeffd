-- What the form `plan` means: the fastest run of a train over a line by a plan, its timetable or its certificate; or the
-- first point that the train can't reach.
use Rattle.std.specs.Prelude.{ℕ, ◌+◌, ◌*◌, ◌≡◌, ◌≤◌, ◌⊎◌, List, [], Option, Some, None}
use Rattle.std.proofs.Common.{arith, refl, inl, inr}
use Rattle.allowances.specs.Rows.{row_count, rows_of, section_count}
use Rattle.case_rules.specs.Case.{train_rule}
use Rattle.cert_check.specs.Laws.{IsCertificateOf}
use Rattle.cert_check.specs.Rules.{IsCertified}
use Rattle.certificate.specs.Texts.{CertView, IsCert, cert_text, text_of}
use Rattle.incr_envelope.specs.Envelope.{EnvelopeView, caps_under}
use Rattle.line_tables.specs.Line.{LineView}
use Rattle.plan_tables.specs.Limits.{most_calls, most_sections}
use Rattle.plan_tables.specs.Plan.{PlanView}
use Rattle.report_text.specs.Texts.{envelope_text, reach_text}
use Rattle.report_text.specs.Timetables.{timetable_text}
use Rattle.run_io.specs.Fetches.{Files}
use Rattle.run_rules.specs.Runs.{IsEnvelopeTo, IsGreatestRun}
use Rattle.run_words.specs.Requests.{CaseNames, case_view}
use Rattle.session_replies.specs.Cases.{case_of}
use Rattle.session_replies.specs.Runs.{NoneIsSooner}
use Rattle.run_words.specs.declared.requests.PlanForm.{PlanForm}
use Rattle.run_words.specs.declared.requests.Print.{Print}
use Rattle.run_words.specs.declared.requests.Print.TheVariants as print
use Rattle.stock_tables.specs.Stock.{StockView}
use Rattle.unit_rules.specs.declared.Zone.{Zone}
use Rattle.time_brackets.specs.Sums.{block_cells}
use Rattle.unit_rules.specs.declared.Reach.TheVariants as reach
use Rattle.run_files.specs.Files.{IsCase, line_reading, most_cells, plan_reading, table_in}
use Rattle.run_files.specs.Statuses.Extent.{whole}
use Rattle.run_files.specs.Statuses.{extent_of}
use Rattle.run_files.specs.declared.cases.Case.{Case}
use Rattle.run_files.specs.declared.status.Status.TheVariants.{Done, Stalled}
use Rattle.run_files.specs.declared.status.Status.{Status}
use Rattle.run_cli.specs.Envelope.{IsEnvelope, ShowsStall, envelope_status, envelope_status-ends, envelope_status-whole}
use Rattle.run_cli.specs.FileForms.{CaseAnswer, MayStall, case_form}
use Rattle.run_cli.specs.FileLaws.{case_meant, cells_allow}
use Rattle.run_cli.specs.Meanings.{Is, Meaning}
use Rattle.run_cli.specs.Serves.{IsMeant}
use Rattle.run_cli.specs.declared.report.PlanReport.{PlanReport}
use Rattle.run_cli.specs.declared.report.PlanReport.TheVariants.{Cert, Speeds, Stall, Times}

-- the timetable of the greatest run of the train on the line by the plan, under the restrictions in force
pub record ShowsTimes (line : LineView) (stock : StockView) (plan : PlanView) (force : List (List ℕ × Zone)) (s : Status) (t : List ℕ) : Type 0 where
  pub list : List ℕ
  pub is_list : IsGreatestRun (train_rule line stock) (caps_under line stock plan force) list
  pub soonest : NoneIsSooner (case_of line stock plan force) list (line.length + 1)
  pub is : Is Done (timetable_text plan (rows_of plan line.length list)) s t

-- the point at which the train is stalled, where no train comes to a point before it sooner than that of the envelope up to
-- there
pub record ShowsStalledTimes (line : LineView) (stock : StockView) (plan : PlanView) (force : List (List ℕ × Zone)) (s : Status) (t : List ℕ) : Type 0 where
  pub list : List ℕ
  pub stall : ShowsStall line stock plan force s t
  pub is_list : IsEnvelopeTo (train_rule line stock) (caps_under line stock plan force) list stall.point
  pub soonest : NoneIsSooner (case_of line stock plan force) list stall.point

-- that timetable, or the train's stall
abbrev pub IsTimetable : CaseAnswer
IsTimetable line stock plan force s t = ShowsTimes line stock plan force s t ⊎ ShowsStalledTimes line stock plan force s t

-- the certificate of the train on the line by the plan, under the restrictions in force: it breaks none of the rules of the
-- checker
pub record ShowsCertificate (line : LineView) (stock : StockView) (plan : PlanView) (force : List (List ℕ × Zone)) (s : Status) (t : List ℕ) : Type 0 where
  pub cert : CertView
  pub right : IsCertificateOf (train_rule line stock) (caps_under line stock plan force) cert.c cert.e cert.verdict
  pub certified : IsCertified (train_rule line stock) (caps_under line stock plan force) cert.c cert.e cert.verdict
  pub is_text : IsCert cert
  pub is : Is (envelope_status cert.verdict) (text_of cert) s t

-- what answers, by what is asked for
abbrev pub plan_answer : Print → CaseAnswer
plan_answer print.Envelope = IsEnvelope
plan_answer print.Timetable = IsTimetable
plan_answer print.Cert = ShowsCertificate

-- how many steps the walks over so many cells take
abbrev pub walk_steps : ℕ → ℕ
walk_steps cells = 33 * (cells + 1) + cells

-- how many steps the times of so many cells, rows and sections take
abbrev pub time_steps : ℕ → ℕ → ℕ → ℕ
time_steps cells rows sections = cells + block_cells * (rows + 2 * sections)

-- how many rows and sections the plan of a file has; where it isn't told, as many as any plan
abbrev pub rows_in : Option PlanView → ℕ
rows_in None = most_calls + 2
rows_in (Some plan) = row_count plan

abbrev pub sections_in : Option PlanView → ℕ
sections_in None = most_sections
sections_in (Some plan) = section_count plan

-- the plan of a case, where files are told and it is there
abbrev pub plan_for : Option LineView → Option (List ℕ) → Option PlanView
plan_for None bytes = None
plan_for (Some line) bytes = table_in (plan_reading line) bytes

abbrev pub plan_in : Option Files → CaseNames → Option PlanView
plan_in None names = None
plan_in (Some files) names = plan_for (table_in line_reading (files names.line)) (files names.plan)

-- how many steps the form may take, by what is asked for
abbrev pub plan_steps : Print → CaseNames → Option Files → ℕ
plan_steps print.Envelope names told = walk_steps (most_cells told names.line)
plan_steps print.Cert names told = walk_steps (most_cells told names.line)
plan_steps print.Timetable names told =
    walk_steps (most_cells told names.line)
    + time_steps (most_cells told names.line) (rows_in (plan_in told names)) (sections_in (plan_in told names))

-- what the form means
abbrev pub plan_meaning : Print → CaseNames → Meaning
plan_meaning kind names = case_form names (plan_answer kind) MayStall (plan_steps kind names)

-- the text of what was found, and the status under which it is written
abbrev pub found_text : PlanReport → List ℕ
found_text (Speeds r) = envelope_text r.speeds.items r.reach
found_text (Stall k) = reach_text (reach.Stalled k)
found_text (Times r) = timetable_text r.envelope.plan r.rows.items
found_text (Cert r) = cert_text r.drive.brakes.items r.drive.speeds.items r.drive.reach

abbrev pub found_status : PlanReport → Status
found_status (Speeds r) = envelope_status r.reach
found_status (Stall k) = Stalled k
found_status (Times r) = Done
found_status (Cert r) = envelope_status r.drive.reach

-- the timetable of an envelope that goes over the whole line, or else its stall
abbrev pub IsTimed : EnvelopeView → PlanReport → Type 0
IsTimed e (Speeds r) = ⊥
IsTimed e (Stall k) = e.reach ≡ reach.Stalled k
IsTimed e (Times r) = (e.reach ≡ reach.Whole) × (r.envelope ≡ e) × (r.rows.items ≡ rows_of e.plan e.line.length e.speeds)
IsTimed e (Cert r) = ⊥

-- how many steps a case takes, by what is asked for
abbrev pub case_steps : Print → Case → ℕ
case_steps print.Envelope c = walk_steps c.line.length
case_steps print.Cert c = walk_steps c.line.length
case_steps print.Timetable c =
    walk_steps c.line.length + time_steps c.line.length (row_count c.plan) (section_count c.plan)

found-whole : (r : PlanReport) → extent_of (found_status r) ≡ whole
found-whole (Speeds r) = envelope_status-whole r.reach
found-whole (Stall k) = refl
found-whole (Times r) = refl
found-whole (Cert r) = envelope_status-whole r.drive.reach

found-ends : (r : PlanReport) → MayStall (found_status r)
found-ends (Speeds r) = envelope_status-ends r.reach
found-ends (Stall k) = inr (k, refl)
found-ends (Times r) = inl refl
found-ends (Cert r) = envelope_status-ends r.drive.reach

-- the report is what the form means
pub plan_means : (f : PlanForm) (told : Option Files) (c : Case) (r : PlanReport) → IsCase (case_view f.case) told c
    → plan_answer f.print c.line c.stock c.plan c.force.pairs (found_status r) (found_text r)
    → IsMeant (plan_meaning f.print (case_view f.case)) told (found_status r) (found_text r)
plan_means f told c r at is =
    case_meant (case_view f.case) (plan_answer f.print) MayStall (plan_steps f.print (case_view f.case)) told c (found_status r) (found_text r) at is
    (found-whole r) (found-ends r)

-- the rows and the sections of a case are those of its plan file
rows-in : (names : CaseNames) (told : Option Files) (c : Case) → IsCase names told c → row_count c.plan ≤ rows_in (plan_in told names)
rows-in names None c at = let few = at.plan.kept.0.calls.few in omega (arith, few)
rows-in names (Some files) c at = rw (at.line.same, at.plan.same) (omega arith)

sections-in : (names : CaseNames) (told : Option Files) (c : Case) → IsCase names told c → section_count c.plan ≤ sections_in (plan_in told names)
sections-in names None c at = at.plan.kept.0.sections.few
sections-in names (Some files) c at = rw (at.line.same, at.plan.same) (omega arith)

allowed : (kind : Print) (names : CaseNames) (told : Option Files) (c : Case) → IsCase names told c → case_steps kind c ≤ plan_steps kind names told
allowed print.Envelope names told c at = cells_allow walk_steps (λ a b h. omega (arith, h)) told names.line c.line at.line
allowed print.Cert names told c at = cells_allow walk_steps (λ a b h. omega (arith, h)) told names.line c.line at.line
allowed print.Timetable names told c at =
    let cells = cells_allow (λ n. n) (λ a b h. h) told names.line c.line at.line in
    omega (arith, cells, rows-in names told c at, sections-in names told c at)

pub plan_allows : (f : PlanForm) (told : Option Files) (c : Case) → IsCase (case_view f.case) told c
    → (plan_meaning f.print (case_view f.case)).steps told [] (case_steps f.print c)
plan_allows f told c at = allowed f.print (case_view f.case) told c at
