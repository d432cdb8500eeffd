-- What a session replies to its lines.
use Rattle.std.specs.Prelude.{ℕ, ◌≡◌, ◌≤◌, ◌+◌, ◌*◌, nat_lt, if◌then◌else◌, List, length, Option, Some, None}
use Rattle.allowances.specs.Arrivals.{arrival}
use Rattle.allowances.specs.Rows.{row_count, rows_of, section_count}
use Rattle.certificate.specs.Texts.{CertView, text_of}
use Rattle.incr_envelope.specs.Touched.{Lists, touched}
use Rattle.plan_tables.specs.Plan.{PlanView}
use Rattle.report_text.specs.Replies.{reply_line}
use Rattle.report_text.specs.Texts.{envelope_text, reach_text}
use Rattle.report_text.specs.Timetables.{timetable_text}
use Rattle.report_text.specs.declared.replies.Reply.{Reply}
use Rattle.report_text.specs.declared.replies.Reply.TheVariants as reply
use Rattle.run_rules.specs.Caps.{binds_at}
use Rattle.session_lines.specs.Dialogues.{Dialogue}
use Rattle.time_brackets.specs.Sums.{block_cells}
use Rattle.time_brackets.specs.declared.Bracket.{Bracket}
use Rattle.unit_rules.specs.declared.Reach.{Reach}
use Rattle.unit_rules.specs.declared.Reach.TheVariants as reach
use Rattle.unit_rules.specs.declared.Zone.{Zone}
use Rattle.session_replies.specs.Asked.{Asked, asked, case_after}
use Rattle.session_replies.specs.Asked.Asked.{Edit, Time, Speeds, Timetable, Certificate, Refused}
use Rattle.session_replies.specs.Cases.{CaseView}
use Rattle.session_replies.specs.Runs.{IsRunOf}
use Rattle.session_replies.specs.declared.answers.Answer.{Answer}
use Rattle.session_replies.specs.declared.answers.Answer.TheVariants as answer

-- when a train of squared speeds e comes to a point; where e has no number, it doesn't
abbrev pub arrival_at : PlanView → List ℕ → ℕ → Option Bracket
arrival_at plan e point = if nat_lt point (length e) then Some (arrival plan e point) else None

-- what a line comes to, by the run of the case after it
abbrev pub answer_to : CaseView → CertView → Asked → Answer
answer_to c run (Edit change zone force) = answer.Made change run.verdict
answer_to c run (Time point) = answer.Time (arrival_at c.plan run.e point)
answer_to c run Speeds = answer.Speeds
answer_to c run Timetable = answer.Timetable
answer_to c run Certificate = answer.Certificate
answer_to c run (Refused code) = answer.Refused code

-- the reply to a `time`, by when the train comes to the point
abbrev pub time_reply : Option Bracket → Reply
time_reply (Some bracket) = reply.Time bracket
time_reply None = reply.NoTime

-- the timetable of a train that gets so far, or its stall
abbrev pub times_text : CaseView → List ℕ → Reach → List ℕ
times_text c e reach.Whole = timetable_text c.plan (rows_of c.plan c.line.length e)
times_text c e (reach.Stalled k) = reach_text (reach.Stalled k)

-- the text of an answer, by the same run
abbrev pub answer_text : CaseView → CertView → Answer → List ℕ
answer_text c run (answer.Made change reach) = reply_line (reply.Made reach)
answer_text c run (answer.Time arrival) = reply_line (time_reply arrival)
answer_text c run answer.Speeds = envelope_text run.e run.verdict
answer_text c run answer.Timetable = times_text c run.e run.verdict
answer_text c run answer.Certificate = text_of run
answer_text c run (answer.Refused code) = reply_line (reply.Refused code)

-- the reply to a line, by the run of the case after it
abbrev pub reply_text : CaseView → CertView → Asked → List ℕ
reply_text c run a = answer_text c run (answer_to c run a)

-- a text is that reply
pub record Replies (c : CaseView) (a : Asked) (t : List ℕ) : Type 0 where
  pub run : CertView
  pub is_run : IsRunOf (case_after c a) run
  pub text : t ≡ reply_text (case_after c a) run a

-- the lists of a run
abbrev pub lists_of : CertView → Lists
lists_of run = record { brakes = run.c; speeds = run.e }

-- how many points an edit with a zone touches, by the runs before and after it
abbrev pub touched_points : CaseView → Zone → CertView → CertView → ℕ
touched_points c zone old new =
    touched (λ i. binds_at c.line.length c.stock.length i zone) (lists_of old) (lists_of new) (c.line.length + 1)

-- how many steps a line may take, by the runs before and after it
abbrev pub line_steps : CaseView → Asked → CertView → CertView → ℕ
line_steps c (Edit change zone force) old new = 35 * (touched_points c zone old new + 2) + 1024
line_steps c (Time point) old new = block_cells
line_steps c Timetable old new = block_cells * (row_count c.plan + 2 * section_count c.plan)
line_steps c _ old new = 0

-- a number is that of the steps that a line may take
pub record MayTake (c : CaseView) (a : Asked) (n : ℕ) : Type 0 where
  pub old : CertView
  pub new : CertView
  pub was_run : IsRunOf c old
  pub is_run : IsRunOf (case_after c a) new
  pub is : n ≡ line_steps c a old new

-- a line that asks for this came to an answer, and the case is another then; in no more steps than it may take
pub record ComesTo (c c' : CaseView) (a : Asked) (given : Answer) (before now : ℕ) : Type 0 where
  pub next : c' ≡ case_after c a
  pub was : CertView
  pub is : CertView
  pub was_run : IsRunOf c was
  pub is_run : IsRunOf (case_after c a) is
  pub answer : given ≡ answer_to (case_after c a) is a
  pub cost : now ≤ before + line_steps c a was is

-- when the train of a case comes to a point
pub record Arrives (c : CaseView) (point : ℕ) (arrival : Option Bracket) : Type 0 where
  pub run : CertView
  pub is_run : IsRunOf c run
  pub is : arrival ≡ arrival_at c.plan run.e point

-- a timetable alone may want memory
abbrev pub MayWant : Asked → Type 0
MayWant Timetable = Unit {0}
MayWant _ = ⊥

-- how a session answers its lines
abbrev pub talk : Dialogue CaseView Asked
talk = record { asked = asked; next = case_after; replies = Replies; allows = MayTake; wants = MayWant }
