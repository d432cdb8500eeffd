-- That there is one answer at most.
use Rattle.std.proofs.Common.{◌≡◌, ℕ, List, [], ◌∷◌, ◌++◌, take, Option, Some, None, arith, sym, ap, subst, ◌∙◌, inl, inr}
use Rattle.case_rules.specs.Case.{train_rule}
use Rattle.incr_envelope.specs.Envelope.{caps_under}
use Rattle.line_tables.specs.Line.{LineView}
use Rattle.plan_tables.specs.Plan.{PlanView, empty_plan}
use Rattle.report_text.specs.Texts.{list_text, reach_text, valid_text}
use Rattle.report_text.specs.Timetables.{timetable_text}
use Rattle.allowances.specs.Rows.{rows_of}
use Rattle.run_io.specs.Fetches.{Files}
use Rattle.run_rules.proofs.RunFacts.{runs_or_stalls, stalls_once}
use Rattle.run_rules.specs.Runs.{IsGreatestRun}
use Rattle.stock_tables.specs.Stock.{StockView}
use Rattle.unit_rules.specs.declared.Zone.{Zone}
use Rattle.unit_rules.specs.declared.Reach.TheVariants as reach
use Rattle.run_cli.specs.Brakes.{IsBrakes}
use Rattle.run_cli.specs.Envelope.{IsEnvelope, envelope_status}
use Rattle.cert_check.proofs.FaultFacts.{IsFirstBroken-once, IsFirstBroken-uncertified}
use Rattle.cert_check.proofs.OnceFacts.{brakes_once, reaches_once}
use Rattle.certificate.specs.Texts.{CertView, cert_text}
use Rattle.run_words.specs.Requests.{CaseNames}
use Rattle.restrictions.specs.Edits.{lines_of}
use Rattle.session_lines.specs.Dialogues.{Replies}
use Rattle.session_lines.specs.Lines.{whole_lines}
use Rattle.session_replies.specs.Asked.{Asked, case_after}
use Rattle.session_replies.specs.Cases.{CaseView, caps_of, case_of, rule_of}
use Rattle.session_replies.specs.Replies.{reply_text, talk}
use Rattle.session_replies.specs.Runs.{IsRunOf}
use Rattle.unit_rules.specs.Limits.{most_bytes}
use Rattle.run_files.specs.Files.{cert_reading, edits_reading, line_reading, plan_reading, stock_reading, table_in}
use Rattle.run_cli.specs.Check.{IsChecked}
use Rattle.run_cli.specs.FileForms.{ByBoth, ByCase, ByCert, ByClaim, ByEdits, CaseAnswer, ClaimAnswer, ByLine, ByPlan, ByStock}
use Rattle.run_cli.specs.Plan.{IsTimetable, ShowsCertificate, plan_answer}
use Rattle.run_words.specs.declared.requests.Print.{Print}
use Rattle.run_words.specs.declared.requests.Print.TheVariants as print
use Rattle.run_files.specs.Statuses.{input_number, status_text}
use Rattle.run_files.specs.declared.status.Status.{Status}
use Rattle.run_files.specs.declared.status.Status.TheVariants.{Done, NotValid, Stalled, TooLong}
use Rattle.run_cli.specs.Meanings.{Answer, AnswersBy, Is, IsOnce}
use Rattle.run_cli.specs.Session.{RepliesTo}

pub Is-once : (status : Status) (text : List ℕ) → IsOnce (Is status text)
Is-once status text s r t u a b = record { one_status = a.status_is ∙ sym b.status_is; one_text = a.text_is ∙ sym b.text_is }

pub AnswersBy-once : (fault : Option Status) (next : Answer) → IsOnce next → IsOnce (AnswersBy fault next)
AnswersBy-once None next once s r t u a b = once s r t u a b
AnswersBy-once (Some fault) next once s r t u a b = record { one_status = a.status_is ∙ sym b.status_is; one_text = a.text_is ∙ sym b.text_is }

some_or : {T : Type 0} → T → Option T → T
some_or d None = d
some_or d (Some x) = x

pub Some-same : {T : Type 0} (o : Option T) (x y : T) → o ≡ Some x → o ≡ Some y → x ≡ y
unfolding some_or
Some-same o x y e f = ap (some_or x) (sym e ∙ f)

pub ByLine-once : (name : List ℕ) (files : Files) (next : LineView → Answer) → ((table : LineView) → IsOnce (next table)) → IsOnce (ByLine name next files)
ByLine-once name files next once s r t u a b =
    once a.0 s r t u a.2 (subst (λ (q : LineView). next q r u) (Some-same (table_in line_reading (files name)) b.0 a.0 b.1 a.1) b.2)

pub ByStock-once : (name : List ℕ) (files : Files) (next : StockView → Answer) → ((table : StockView) → IsOnce (next table)) → IsOnce (ByStock name next files)
ByStock-once name files next once s r t u a b =
    once a.0 s r t u a.2 (subst (λ (q : StockView). next q r u) (Some-same (table_in stock_reading (files name)) b.0 a.0 b.1 a.1) b.2)

pub ByBoth-once : (line_name stock_name : List ℕ) (files : Files) (next : LineView → StockView → Answer) → ((table : LineView) (train : StockView) → IsOnce (next table train))
    → IsOnce (ByBoth line_name stock_name next files)
ByBoth-once line_name stock_name files next once =
    ByLine-once line_name files (λ table. ByStock stock_name (next table) files) (λ table. ByStock-once stock_name files (next table) (once table))

pub ByPlan-once : (line : LineView) (name : List ℕ) (files : Files) (next : PlanView → Answer) → ((table : PlanView) → IsOnce (next table)) → IsOnce (ByPlan line name next files)
ByPlan-once line name files next once s r t u a b =
    once a.0 s r t u a.2 (subst (λ (q : PlanView). next q r u) (Some-same (table_in (plan_reading line) (files name)) b.0 a.0 b.1 a.1) b.2)

ByEdits-once : (line : LineView) (name : Option (List ℕ)) (files : Files) (next : List (List ℕ × Zone) → Answer) → ((force : List (List ℕ × Zone)) → IsOnce (next force)) → IsOnce (ByEdits line name next files)
ByEdits-once line None files next once s r t u a b = once [] s r t u a b
ByEdits-once line (Some name) files next once s r t u a b =
    once a.0 s r t u a.2 (subst (λ (q : List (List ℕ × Zone)). next q r u) (Some-same (table_in (edits_reading line) (files name)) b.0 a.0 b.1 a.1) b.2)

pub ByCase-once : (names : CaseNames) (files : Files) (next : CaseAnswer) → ((line : LineView) (stock : StockView) (plan : PlanView) (force : List (List ℕ × Zone)) → IsOnce (next line stock plan force))
    → IsOnce (ByCase names next files)
ByCase-once names files next once =
    ByBoth-once names.line names.stock files (λ line stock. ByPlan line names.plan (λ plan. ByEdits line names.edits (next line stock plan) files) files)
    (λ line stock. ByPlan-once line names.plan files (λ plan. ByEdits line names.edits (next line stock plan) files) (λ plan. ByEdits-once line names.edits files (next line stock plan) (once line stock plan)))

ByCert-once : (name : List ℕ) (files : Files) (next : CertView → Answer) → ((cert : CertView) → IsOnce (next cert)) → IsOnce (ByCert name next files)
ByCert-once name files next once s r t u a b =
    once a.0 s r t u a.2 (subst (λ (q : CertView). next q r u) (Some-same (table_in cert_reading (files name)) b.0 a.0 b.1 a.1) b.2)

pub ByClaim-once : (names : CaseNames) (cert_name : List ℕ) (files : Files) (next : ClaimAnswer) → ((line : LineView) (stock : StockView) (plan : PlanView) (force : List (List ℕ × Zone)) (cert : CertView) → IsOnce (next line stock plan force cert))
    → IsOnce (ByClaim names cert_name next files)
ByClaim-once names cert_name files next once =
    ByCase-once names files (λ line stock plan force. ByCert cert_name (next line stock plan force) files)
    (λ line stock plan force. ByCert-once cert_name files (next line stock plan force) (once line stock plan force))

pub IsBrakes-once : (table : LineView) (train : StockView) → IsOnce (IsBrakes table train)
IsBrakes-once table train s r t u a b =
    let list = brakes_once (train_rule table train) (caps_under table train empty_plan []) a.list b.list a.is_list b.is_list in
    record { one_status = a.is.status_is ∙ sym b.is.status_is; one_text = a.is.text_is ∙ ap list_text list ∙ sym b.is.text_is }

-- there is one greatest run at most
runs_once : (table : LineView) (train : StockView) (plan : PlanView) (force : List (List ℕ × Zone)) (e f : List ℕ) → IsGreatestRun (train_rule table train) (caps_under table train plan force) e
    → IsGreatestRun (train_rule table train) (caps_under table train plan force) f → e ≡ f
runs_once table train plan force e f h k = (reaches_once (train_rule table train) (caps_under table train plan force) e f reach.Whole reach.Whole h h.run.same_points k k.run.same_points).0

pub IsEnvelope-once : (table : LineView) (train : StockView) (plan : PlanView) (force : List (List ℕ × Zone)) → IsOnce (IsEnvelope table train plan force)
IsEnvelope-once table train plan force s r t u (inl a) (inl b) =
    let list = runs_once table train plan force a.list b.list a.is_list b.is_list in
    record { one_status = a.is.status_is ∙ sym b.is.status_is; one_text = a.is.text_is ∙ ap list_text list ∙ sym b.is.text_is }
IsEnvelope-once table train plan force s r t u (inl a) (inr b) = absurd (runs_or_stalls (train_rule table train) (caps_under table train plan force) a.list b.point a.is_list.run b.is_stalled)
IsEnvelope-once table train plan force s r t u (inr a) (inl b) = absurd (runs_or_stalls (train_rule table train) (caps_under table train plan force) b.list a.point b.is_list.run a.is_stalled)
IsEnvelope-once table train plan force s r t u (inr a) (inr b) =
    let point = stalls_once (train_rule table train) (caps_under table train plan force) a.point b.point a.is_stalled b.is_stalled in
    record {
      one_status = a.is.status_is ∙ ap (λ (k : ℕ). Stalled k) point ∙ sym b.is.status_is;
      one_text = a.is.text_is ∙ ap (λ (k : ℕ). reach_text (reach.Stalled k)) point ∙ sym b.is.text_is;
    }

pub IsTimetable-once : (table : LineView) (train : StockView) (plan : PlanView) (force : List (List ℕ × Zone)) → IsOnce (IsTimetable table train plan force)
IsTimetable-once table train plan force s r t u (inl a) (inl b) =
    let list = runs_once table train plan force a.list b.list a.is_list b.is_list in
    record { one_status = a.is.status_is ∙ sym b.is.status_is; one_text = a.is.text_is ∙ ap (λ e. timetable_text plan (rows_of plan table.length e)) list ∙ sym b.is.text_is }
IsTimetable-once table train plan force s r t u (inl a) (inr b) = absurd (runs_or_stalls (train_rule table train) (caps_under table train plan force) a.list b.stall.point a.is_list.run b.stall.is_stalled)
IsTimetable-once table train plan force s r t u (inr a) (inl b) = absurd (runs_or_stalls (train_rule table train) (caps_under table train plan force) b.list a.stall.point b.is_list.run a.stall.is_stalled)
IsTimetable-once table train plan force s r t u (inr a) (inr b) = IsEnvelope-once table train plan force s r t u (inr a.stall) (inr b.stall)

pub ShowsCertificate-once : (table : LineView) (train : StockView) (plan : PlanView) (force : List (List ℕ × Zone)) → IsOnce (ShowsCertificate table train plan force)
ShowsCertificate-once table train plan force s r t u a b =
    let x = caps_under table train plan force in
    let rule = train_rule table train in
    let list = brakes_once rule x a.cert.c b.cert.c a.right.brakes b.right.brakes in
    let rest = reaches_once rule x a.cert.e b.cert.e a.cert.verdict b.cert.verdict a.right.reaches a.right.long b.right.reaches b.right.long in
    record {
      one_status = a.is.status_is ∙ ap envelope_status rest.1 ∙ sym b.is.status_is;
      one_text = a.is.text_is ∙ (λ k. cert_text (list k) (rest.0 k) (rest.1 k)) ∙ sym b.is.text_is;
    }

pub IsChecked-once : (table : LineView) (train : StockView) (plan : PlanView) (force : List (List ℕ × Zone)) (cert : CertView) → IsOnce (IsChecked table train plan force cert)
IsChecked-once table train plan force cert s r t u (inl a) (inl b) = Is-once Done (valid_text cert.verdict) s r t u a.is b.is
IsChecked-once table train plan force cert s r t u (inl a) (inr b) =
    absurd (IsFirstBroken-uncertified (train_rule table train) (caps_under table train plan force) cert.c cert.e cert.verdict b.point b.rule b.first a.certified)
IsChecked-once table train plan force cert s r t u (inr a) (inl b) =
    absurd (IsFirstBroken-uncertified (train_rule table train) (caps_under table train plan force) cert.c cert.e cert.verdict a.point a.rule a.first b.certified)
IsChecked-once table train plan force cert s r t u (inr a) (inr b) =
    let same = IsFirstBroken-once (train_rule table train) (caps_under table train plan force) cert.c cert.e cert.verdict a.point a.rule b.point b.rule a.first b.first in
    record {
      one_status = a.is.status_is ∙ (λ k. NotValid (same.1 k) (same.0 k)) ∙ sym b.is.status_is;
      one_text = a.is.text_is ∙ (λ k. status_text (NotValid (same.1 k) (same.0 k))) ∙ sym b.is.text_is;
    }

pub plan_answer-once : (kind : Print) (table : LineView) (train : StockView) (plan : PlanView) (force : List (List ℕ × Zone)) → IsOnce (plan_answer kind table train plan force)
plan_answer-once print.Envelope table train plan force = IsEnvelope-once table train plan force
plan_answer-once print.Timetable table train plan force = IsTimetable-once table train plan force
plan_answer-once print.Cert table train plan force = ShowsCertificate-once table train plan force

-- a case has one run at most
pub run_once : (c : CaseView) (r q : CertView) → IsRunOf c r → IsRunOf c q → r ≡ q
run_once c r q is_run is_run' =
    let x = caps_of c in
    let rule = rule_of c in
    let list = brakes_once rule x r.c q.c is_run.right.brakes is_run'.right.brakes in
    let rest = reaches_once rule x r.e q.e r.verdict q.verdict is_run.right.reaches is_run.right.long is_run'.right.reaches is_run'.right.long in
    λ k. record { c = list k; e = rest.0 k; verdict = rest.1 k }

-- a line has one reply at most in a case, and so have lines one after another
reply-once : (c : CaseView) (a : Asked) (t u : List ℕ) → talk.replies c a t → talk.replies c a u → t ≡ u
reply-once c a t u r q =
    let after = case_after c a in
    r.text ∙ ap (λ (run : CertView). reply_text after run a) (run_once after r.run q.run r.is_run q.is_run) ∙ sym q.text

replies-once : (c : CaseView) (lines : List (List ℕ)) (t u : List ℕ) → Replies talk c lines t → Replies talk c lines u → t ≡ u
replies-once c [] t u r q = r ∙ sym q
replies-once c (line ∷ lines) t u (v, r, (w, rs, e)) (v', q, (w', qs, f)) =
    let a = talk.asked c line in
    let first = reply-once c a v v' r q in
    let later = replies-once (talk.next c a) lines w w' rs qs in
    e ∙ (λ k. first k ++ later k) ∙ sym f

pub RepliesTo-once : (input : List ℕ) (line : LineView) (stock : StockView) (plan : PlanView) (force : List (List ℕ × Zone)) → IsOnce (RepliesTo input line stock plan force)
RepliesTo-once input line stock plan force s r t u (inl a) (inl b) = record {
  one_status = a.is_done ∙ sym b.is_done;
  one_text = replies-once (case_of line stock plan force) (lines_of input) t u a.replies b.replies;
}
RepliesTo-once input line stock plan force s r t u (inl a) (inr b) = absurd (omega (arith, a.short, b.long))
RepliesTo-once input line stock plan force s r t u (inr a) (inl b) = absurd (omega (arith, a.long, b.short))
RepliesTo-once input line stock plan force s r t u (inr a) (inr b) =
    let said = replies-once (case_of line stock plan force) (whole_lines (take most_bytes input)) a.said b.said a.replies b.replies in
    record {
      one_status = a.is.status_is ∙ sym b.is.status_is;
      one_text = a.is.text_is ∙ ap (λ (q : List ℕ). q ++ status_text (TooLong input_number)) said ∙ sym b.is.text_is;
    }
