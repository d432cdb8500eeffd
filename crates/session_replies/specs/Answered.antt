-- What the layers of the crate say to each other: what a line came to, and how its answer was written.
use Rattle.std.specs.Prelude.{ℕ, ◌≡◌, ◌≤◌, ◌+◌, ◌*◌, List, [], Result, Ok, Err}
use Rattle.allowances.specs.Rows.{row_count, section_count}
use Rattle.certificate.specs.Texts.{CertView}
use Rattle.incr_envelope.specs.Envelope.{EnvelopeView}
use Rattle.plan_tables.specs.Plan.{PlanView}
use Rattle.run_io.specs.Told.{Rose, Told, Writes, WritesFront}
use Rattle.run_io.specs.declared.Failed.{Failed}
use Rattle.session_lines.specs.declared.Stop.{Stop}
use Rattle.session_lines.specs.declared.Stop.TheVariants as stop
use Rattle.time_brackets.specs.Sums.{block_cells}
use Rattle.session_replies.specs.Asked.{Asked, case_after}
use Rattle.session_replies.specs.Asked.Asked.{Timetable}
use Rattle.session_replies.specs.Cases.{CaseView, case_in}
use Rattle.session_replies.specs.Replies.{answer_text, answer_to, line_steps}
use Rattle.session_replies.specs.Runs.{run_in}
use Rattle.session_replies.specs.declared.answers.Answer.{Answer}
use Rattle.session_replies.specs.declared.answers.Answer.TheVariants as answer

-- how many steps a line may take before its answer is written: all that it may take, but for a timetable none
abbrev pub first_steps : CaseView → Asked → CertView → CertView → ℕ
first_steps c Timetable old new = 0
first_steps c a old new = line_steps c a old new

-- a line of the session of an envelope came to an answer
pub record Comes (a b : EnvelopeView) (asks : Asked) (given : Answer) (before now : ℕ) : Type 0 where
  pub next : case_in b ≡ case_after (case_in a) asks
  pub answer : given ≡ answer_to (case_in b) (run_in b) asks
  pub cost : now ≤ before + first_steps (case_in a) asks (run_in a) (run_in b)

-- how many steps it may take to write an answer
abbrev pub last_steps : PlanView → Answer → ℕ
last_steps plan answer.Timetable = block_cells * (row_count plan + 2 * section_count plan)
last_steps plan _ = 0

-- how a line is answered whose reply is written so
abbrev pub replied_by : Result (Unit {0}) Failed → Result (Unit {0}) Stop
replied_by (Ok u) = Ok u
replied_by (Err f) = Err stop.Write

-- a text was written, or the output failed at a front of it; or memory was wanted, for a timetable, and nothing was written
abbrev pub WritesBy : Answer → Told (List ℕ) → Told (List ℕ) → List ℕ → Result (Unit {0}) Stop → Type 0
WritesBy given old new t (Ok u) = Writes old new t
WritesBy given old new t (Err stop.Write) = Rose old new × WritesFront old new t
WritesBy given old new t (Err stop.Memory) = (given ≡ answer.Timetable) × Writes old new []

-- such a text was written for an answer
pub record IsWritten (given : Answer) (old new : Told (List ℕ)) (t : List ℕ) (result : Result (Unit {0}) Stop) : Type 0 where
  pub later : old.faults ≤ new.faults
  pub text : WritesBy given old new t result

-- the answer of an envelope was written so
pub record Tells (v : EnvelopeView) (given : Answer) (old new : Told (List ℕ)) (before now : ℕ) (result : Result (Unit {0}) Stop) : Type 0 where
  pub written : IsWritten given old new (answer_text (case_in v) (run_in v) given) result
  pub cost : now ≤ before + last_steps v.plan given
