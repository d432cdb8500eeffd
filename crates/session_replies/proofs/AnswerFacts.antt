-- That lines come to what the dialogue says, and that their answers are written so.
use Rattle.std.proofs.Common.{◌≡◌, ◌≤◌, ℕ, ◌+◌, ◌*◌, List, Option, Some, None, Result, Ok, Err, OnErr, OnOk, is_some, if◌then◌else◌, arith, refl, subst, sym, ap, ◌∙◌}
use Rattle.run_io.specs.Told.{HasCause, Told, Writes, WritesFront}
use Rattle.run_io.specs.declared.Failed.{Failed}
use Rattle.incr_envelope.specs.Envelope.{EnvelopeView, IsFromScratch, IsOneCase, touched_by}
use Rattle.certificate.specs.Texts.{CertView}
use Rattle.restrictions.specs.Edits.{code_of_edit}
use Rattle.restrictions.specs.Force.{put_in, take_from, without, zone_of}
use Rattle.restrictions.specs.declared.force.EditFault.{EditFault}
use Rattle.restrictions.specs.declared.force.EditFault.TheVariants.{Absent}
use Rattle.session_lines.specs.Sessions.{Responds, RespondsBy}
use Rattle.session_lines.specs.declared.Stop.{Stop}
use Rattle.session_lines.specs.declared.Stop.TheVariants as stop
use Rattle.unit_rules.specs.declared.Reach.{Reach}
use Rattle.unit_rules.specs.declared.Zone.{Zone}
use Rattle.session_replies.specs.CaseLaws.{IsRunOf-right, length-caps_under}
use Rattle.session_replies.specs.Answered.{Comes, IsWritten, Tells, WritesBy, first_steps, last_steps, replied_by}
use Rattle.session_replies.specs.Asked.{Asked, asked, asked_put, asked_take, case_after}
use Rattle.session_replies.specs.Asked.Asked.{Certificate, Edit, Refused, Speeds, Time, Timetable}
use Rattle.session_replies.specs.Cases.{CaseView, IsLawfulCase, case_in}
use Rattle.session_replies.specs.Replies.{ComesTo, MayTake, MayWant, Replies, answer_text, answer_to, line_steps, reply_text, talk}
use Rattle.session_replies.specs.Runs.{IsRunOf, run_in}
use Rattle.session_replies.specs.TalkLaws.{stays}
use Rattle.session_replies.specs.declared.answers.Answer.{Answer}
use Rattle.session_replies.specs.declared.answers.Answer.TheVariants as answer
use Rattle.session_replies.specs.declared.answers.Change.{Change}
use Rattle.session_replies.specs.declared.answers.Change.TheVariants as change

-- a text is written as its reply is
pub IsWritten-replied : (a : Answer) (old new : Told (List ℕ)) (t : List ℕ) (w : Result (Unit {0}) Failed) → OnOk w (Writes old new t) → OnErr w (WritesFront old new t) → HasCause old new w
    → IsWritten a old new t (replied_by w)
IsWritten-replied a old new t (Ok u) ok failed cause = record { later = cause.later; text = ok }
IsWritten-replied a old new t (Err f) ok failed cause = record { later = cause.later; text = (cause.failed, failed) }

-- the run that an envelope keeps is that of its case
pub IsRunOf-scratch : (v : EnvelopeView) → IsLawfulCase (case_in v) → IsFromScratch v → IsRunOf (case_in v) (run_in v)
IsRunOf-scratch v law scratch =
    let points = length-caps_under v.line v.stock v.plan v.force in
    IsRunOf-right v.line v.stock v.plan v.force (run_in v) law.stock.fast law.line.long law.monotone (record { brakes = scratch.brakes; reaches = scratch.reaches; long = rw points scratch.known })

-- a line that is refused comes to its code
pub Comes-refused : (v : EnvelopeView) (code : ℕ) (count : ℕ) → Comes v v (Refused code) (answer.Refused code) count count
Comes-refused v code count = record { next = refl; answer = refl; cost = omega arith }

-- an edit comes to how far the train gets after it
case-edited : (a b : EnvelopeView) (change : Change) (zone : Zone) → IsOneCase a b → case_in b ≡ case_after (case_in a) (Edit change zone b.force)
case-edited a b change zone one = rw (one.line, one.stock, one.plan) refl

Comes-edit : (a b : EnvelopeView) (change : Change) (zone : Zone) (reach : Reach) (before now : ℕ) → IsOneCase a b → reach ≡ b.reach → now ≤ before + 35 * (touched_by zone a b + 2) + 1024
    → Comes a b (Edit change zone b.force) (answer.Made change reach) before now
Comes-edit a b change zone reach before now one gets cost = record { next = case-edited a b change zone one; answer = rw gets refl; cost = omega (arith, cost) }

pub Comes-put : (a b : EnvelopeView) (id : List ℕ) (zone : Zone) (reach : Reach) (before now : ℕ) → IsOneCase a b → put_in id zone a.force ≡ Ok b.force → reach ≡ b.reach
    → now ≤ before + 35 * (touched_by zone a b + 2) + 1024 → Comes a b (asked_put zone (put_in id zone a.force)) (answer.Made change.Put reach) before now
Comes-put a b id zone reach before now one put gets cost = rw put (Comes-edit a b change.Put zone reach before now one gets cost)

pub Comes-put_refused : (a b : EnvelopeView) (id : List ℕ) (zone : Zone) (fault : EditFault) (code before now : ℕ) → b ≡ a → now ≡ before → put_in id zone a.force ≡ Err fault → code ≡ code_of_edit fault
    → Comes a b (asked_put zone (put_in id zone a.force)) (answer.Refused code) before now
Comes-put_refused a b id zone fault code before now same still put is = rw (same, still, put, is) (Comes-refused a (code_of_edit fault) before)

-- and a take
taken : (o : Option Zone) (left after : List (List ℕ × Zone)) → ◌≡◌ {A = Result (List (List ℕ × Zone)) EditFault} (if is_some o then Ok left else Err Absent) (Ok after)
    → (z : Zone) × (o ≡ Some z) × (after ≡ left)
taken None left after e = absurd (cc e)
taken (Some z) left after e = let same : left ≡ after = cc in (z, refl, sym same)

pub take_from-taken : (id : List ℕ) (pairs after : List (List ℕ × Zone)) → take_from id pairs ≡ Ok after → (z : Zone) × (zone_of id pairs ≡ Some z) × (after ≡ without id pairs)
take_from-taken id pairs after e = taken (zone_of id pairs) (without id pairs) after e

left_alone : (o : Option Zone) (left : List (List ℕ × Zone)) (fault : EditFault) → ◌≡◌ {A = Result (List (List ℕ × Zone)) EditFault} (if is_some o then Ok left else Err Absent) (Err fault)
    → (o ≡ None) × (fault ≡ Absent)
left_alone None left fault e = let same : Absent ≡ fault = cc in (refl, sym same)
left_alone (Some z) left fault e = absurd (cc e)

pub Comes-taken : (a b : EnvelopeView) (id : List ℕ) (z : Zone) (reach : Reach) (before now : ℕ) → IsOneCase a b → zone_of id a.force ≡ Some z → b.force ≡ without id a.force → reach ≡ b.reach
    → now ≤ before + 35 * (touched_by z a b + 2) + 1024 → Comes a b (asked_take (zone_of id a.force) (without id a.force)) (answer.Made change.Take reach) before now
Comes-taken a b id z reach before now one at force gets cost = rw (at, ← force) (Comes-edit a b change.Take z reach before now one gets cost)

pub Comes-take_refused : (a b : EnvelopeView) (id : List ℕ) (fault : EditFault) (code before now : ℕ) → b ≡ a → now ≡ before → take_from id a.force ≡ Err fault → code ≡ code_of_edit fault
    → Comes a b (asked_take (zone_of id a.force) (without id a.force)) (answer.Refused code) before now
Comes-take_refused a b id fault code before now same still take is =
    let absent = left_alone (zone_of id a.force) (without id a.force) fault take in
    rw (same, still, absent.0, is, absent.1) (Comes-refused a (code_of_edit Absent) before)

-- the steps before an answer is written and those then are together those of its line
all_steps : (c : CaseView) (was is run : CertView) (d : CaseView) (a : Asked) → d.plan ≡ c.plan → first_steps c a was is + last_steps d.plan (answer_to d run a) ≡ line_steps c a was is
all_steps c was is run d (Edit change zone force) same = omega arith
all_steps c was is run d (Time point) same = omega arith
all_steps c was is run d Speeds same = refl
all_steps c was is run d Timetable same = rw same (omega arith)
all_steps c was is run d Certificate same = refl
all_steps c was is run d (Refused code) same = refl

first-le : (c : CaseView) (a : Asked) (was is : CertView) → first_steps c a was is ≤ line_steps c a was is
first-le c (Edit change zone force) was is = omega arith
first-le c (Time point) was is = omega arith
first-le c Speeds was is = omega arith
first-le c Timetable was is = omega arith
first-le c Certificate was is = omega arith
first-le c (Refused code) was is = omega arith

-- no edit changes the plan
same_plan : (c : CaseView) (a : Asked) → (case_after c a).plan ≡ c.plan
same_plan c (Edit change zone force) = refl
same_plan c (Time point) = refl
same_plan c Speeds = refl
same_plan c Timetable = refl
same_plan c Certificate = refl
same_plan c (Refused code) = refl

-- a timetable alone comes to one
may_want : (c : CaseView) (run : CertView) (a : Asked) → answer_to c run a ≡ answer.Timetable → MayWant a
may_want c run (Edit change zone force) e = absurd (cc e)
may_want c run (Time point) e = absurd (cc e)
may_want c run Speeds e = absurd (cc e)
may_want c run Timetable e = tt
may_want c run Certificate e = absurd (cc e)
may_want c run (Refused code) e = absurd (cc e)

-- what the runs of an envelope before and after a line say of it
module _ (a b : EnvelopeView) (line : List ℕ) (law : IsLawfulCase (case_in a)) (was : IsFromScratch a) (is : IsFromScratch b) (given : Answer) (before mid : ℕ)
    (comes : Comes a b (asked (case_in a) line) given before mid) where
  abbrev asks : Asked
  asks = asked (case_in a) line

  after_run : IsRunOf (case_after (case_in a) asks) (run_in b)
  after_run = subst (λ (c : CaseView). IsRunOf c (run_in b)) comes.next (IsRunOf-scratch b (subst IsLawfulCase (sym comes.next) (stays (case_in a) line law)) is)

  pub comes_to : ComesTo (case_in a) (case_in b) asks given before mid
  comes_to = record {
    next = comes.next;
    was = run_in a;
    is = run_in b;
    was_run = IsRunOf-scratch a law was;
    is_run = after_run;
    answer = rw comes.next at comes.answer;
    cost = omega (arith, comes.cost, first-le (case_in a) asks (run_in a) (run_in b));
  }

  allowed : MayTake (case_in a) asks (line_steps (case_in a) asks (run_in a) (run_in b))
  allowed = record { old = run_in a; new = run_in b; was_run = IsRunOf-scratch a law was; is_run = after_run; is = refl }

  replied : (t : List ℕ) → t ≡ reply_text (case_in b) (run_in b) asks → Replies (case_in a) asks t
  replied t text = record { run = run_in b; is_run = after_run; text = rw comes.next at text }

  outcome : (old new : Told (List ℕ)) (result : Result (Unit {0}) Stop) → WritesBy given old new (reply_text (case_in b) (run_in b) asks) result
      → RespondsBy talk (case_in a) (case_in b) asks old new result
  outcome old new (Ok u) text = (comes.next, (reply_text (case_in b) (run_in b) asks, replied _ refl, text))
  outcome old new (Err stop.Write) text = (text.0, (reply_text (case_in b) (run_in b) asks, replied _ refl, text.1))
  outcome old new (Err stop.Memory) text = (may_want (case_in b) (run_in b) asks (sym comes.answer ∙ text.0), text.1)

  -- a line is answered where the answer that it has come to is written
  pub responds : (old new : Told (List ℕ)) (now : ℕ) (result : Result (Unit {0}) Stop) → Tells b given old new mid now result → Responds talk (case_in a) (case_in b) line old new before now result
  responds old new now result tells =
      let plan : b.plan ≡ a.plan = ap (λ (c : CaseView). c.plan) comes.next ∙ same_plan (case_in a) asks in
      let cost = subst (λ (x : Answer). now ≤ mid + last_steps b.plan x) comes.answer tells.cost in
      record {
        later = tells.written.later;
        cost = line_steps (case_in a) asks (run_in a) (run_in b);
        allowed = allowed;
        within = omega (arith, comes.cost, cost, all_steps (case_in a) (run_in a) (run_in b) (run_in b) (case_in b) asks plan);
        outcome = outcome old new result (subst (λ (x : Answer). WritesBy given old new (answer_text (case_in b) (run_in b) x) result) comes.answer tells.written.text);
      }
