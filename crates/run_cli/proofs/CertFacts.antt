-- That what was driven is a certificate, and that the certificate that is printed is valid.
use Rattle.std.proofs.Common.{subst, ◌≡◌, ℕ, ◌+◌, ◌≤◌, List, [], length, Option, Some, None, Result, Ok, Err, IfOk, refl, inl, inr, ap, ◌∙◌}
use Rattle.std.specs.Prelude.{IsOk, ◌↔◌}
use Rattle.case_rules.specs.Case.{train_rule}
use Rattle.cert_check.specs.Faults.{IsFirstBroken}
use Rattle.cert_check.specs.Laws.{IsCertificateOf}
use Rattle.cert_check.specs.Rules.{IsCertified}
use Rattle.cert_check.specs.declared.CertFault.{CertFault}
use Rattle.certificate.proofs.ReadFacts.{read_as_cert-text}
use Rattle.certificate.specs.Reading.{read_as_cert}
use Rattle.certificate.specs.Texts.{CertView, IsCert, cert_text, text_of}
use Rattle.incr_envelope.specs.Envelope.{caps_under}
use Rattle.line_tables.specs.Line.{LineView}
use Rattle.plan_tables.specs.Plan.{PlanView}
use Rattle.report_text.specs.Texts.{valid_text}
use Rattle.run_io.specs.Fetches.{Files}
use Rattle.run_words.specs.Requests.{CaseNames}
use Rattle.run_rules.specs.Runs.{IsBrakingList, IsMonotone, ReachesAs}
use Rattle.run_rules.specs.Speeds.{squared}
use Rattle.run_rules.specs.Walks.{count_of}
use Rattle.stock_tables.specs.Stock.{StockView}
use Rattle.unit_rules.specs.Limits.{greatest_speed, longest_line}
use Rattle.unit_rules.specs.declared.Reach.{Reach}
use Rattle.unit_rules.specs.declared.Zone.{Zone}
use Rattle.session_replies.specs.CaseLaws.{IsRunOf-right, length-caps_under}
use Rattle.run_cli.specs.Check.{IsChecked, found_status, found_text}
use Rattle.run_cli.specs.Envelope.{envelope_status}
use Rattle.session_replies.specs.Cases.{CaseView, caps_of, case_of, rule_of}
use Rattle.run_files.specs.Files.{cert_reading, table_in}
use Rattle.run_files.specs.declared.status.Status.{Status}
use Rattle.run_files.specs.declared.status.Status.TheVariants.{Done}
use Rattle.run_cli.specs.FileForms.{ByCase, ByCert, ByEdits, CaseAnswer}
use Rattle.run_cli.specs.Laws.{IsValidThere, LeavesInForce, PrintedAreValid, ReadAs, RepliedAreValid}
use Rattle.run_cli.specs.Plan.{ShowsCertificate}

-- the braking list and the speeds of a run, and its reach, are the certificate of a case
pub driven-certificate : (line : LineView) (stock : StockView) (plan : PlanView) (force : List (List ℕ × Zone)) (c e : List ℕ) (reach : Reach) → stock.top ≤ greatest_speed → line.length ≤ longest_line
    → IsMonotone (train_rule line stock) line.length (squared stock.top) → IsBrakingList (train_rule line stock) (caps_under line stock plan force) c
    → ReachesAs (train_rule line stock) (caps_under line stock plan force) e reach → length e ≡ count_of (line.length + 1) reach
    → ShowsCertificate line stock plan force (envelope_status reach) (cert_text c e reach)
driven-certificate line stock plan force c e reach fast short mono brakes reaches known =
    let points = length-caps_under line stock plan force in
    let cert : CertView = record { c = c; e = e; verdict = reach } in
    let run = IsRunOf-right line stock plan force cert fast short mono (record { brakes = brakes; reaches = reaches; long = rw points known }) in
    record { cert = cert; right = run.right; certified = run.certified; is_text = run.is_text; is = record { status_is = refl; text_is = refl } }

-- what answers by a case, over files that read as it
by_case : (names : CaseNames) (files : Files) (c : CaseView) (next : CaseAnswer) (s : Status) (t : List ℕ) → ReadAs names files c → next c.line c.stock c.plan c.force s t → ByCase names next files s t
by_case names files c next s t at h = (c.line, at.is_line, (c.stock, at.is_stock, (c.plan, at.is_plan, by_edits names.edits at.in_force)))
  where
    by_edits : (edits : Option (List ℕ)) → LeavesInForce c.line edits files c.force → ByEdits c.line edits (next c.line c.stock c.plan) files s t
    by_edits None none = subst (λ (force : List (List ℕ × Zone)). next c.line c.stock c.plan force s t) none h
    by_edits (Some name) left = (c.force, left, h)

-- the text of a certificate of a case is read as one that breaks no rule
certificate_valid : (names : CaseNames) (cert_name : List ℕ) (files : Files) (c : CaseView) (cert : CertView) (t : List ℕ) → ReadAs names files c → IsCertificateOf (rule_of c) (caps_of c) cert.c cert.e cert.verdict
    → IsCertified (rule_of c) (caps_of c) cert.c cert.e cert.verdict → IsCert cert → t ≡ text_of cert → IsValidThere names cert_name files t
certificate_valid names cert_name files c cert t at right certified is_text is there =
    let read : read_as_cert t ≡ Ok cert = ap read_as_cert is ∙ read_as_cert-text cert is_text in
    let found : table_in cert_reading (files cert_name) ≡ Some cert = rw there (rw read refl) in
    let next : CaseAnswer = λ line stock plan force. ByCert cert_name (IsChecked line stock plan force) files in
    let answer : next c.line c.stock c.plan c.force Done (valid_text cert.verdict) =
    (cert, found, inl (record { certified = certified; right = right; is = record { status_is = refl; text_is = refl } })) in
    (cert, by_case names files c next Done (valid_text cert.verdict) at answer)

pub printed_are_valid : PrintedAreValid
printed_are_valid names other cert_name files there s t same (line, is_line, (stock, is_stock, (plan, is_plan, by))) = by_edits names.edits refl by
  where
    valid : (force : List (List ℕ × Zone)) → LeavesInForce line names.edits files force → ShowsCertificate line stock plan force s t → IsValidThere other cert_name there t
    valid force left shows =
        let c = case_of line stock plan force in
        let at : ReadAs names files c = record { is_line = is_line; is_stock = is_stock; is_plan = is_plan; in_force = left } in
        certificate_valid other cert_name there c shows.cert t (same c at) shows.right shows.certified shows.is_text shows.is.text_is

    by_edits : (edits : Option (List ℕ)) → edits ≡ names.edits → ByEdits line edits (ShowsCertificate line stock plan) files s t → IsValidThere other cert_name there t
    by_edits None is h = valid [] (subst (λ (e : Option (List ℕ)). LeavesInForce line e files []) is refl) h
    by_edits (Some name) is (force, left, h) = valid force (subst (λ (e : Option (List ℕ)). LeavesInForce line e files force) is left) h

pub replied_are_valid : RepliedAreValid
replied_are_valid names cert_name files c t at replied =
    let run = replied.is_run in
    certificate_valid names cert_name files c replied.run t at run.right run.certified run.is_text replied.text

-- what was found of a certificate is what answers
pub checked-answers : (line : LineView) (stock : StockView) (plan : PlanView) (force : List (List ℕ × Zone)) (cert : CertView) (r : Result Reach CertFault) → IfOk r (λ reach. reach ≡ cert.verdict)
    → IsOk r ↔ IsCertified (train_rule line stock) (caps_under line stock plan force) cert.c cert.e cert.verdict
    → IsOk r ↔ IsCertificateOf (train_rule line stock) (caps_under line stock plan force) cert.c cert.e cert.verdict
    → ((fault : CertFault) → (r ≡ Err fault) ↔ IsFirstBroken (train_rule line stock) (caps_under line stock plan force) cert.c cert.e cert.verdict fault.point fault.rule)
    → IsChecked line stock plan force cert (found_status r) (found_text r)
checked-answers line stock plan force cert (Ok reach) same valid right broken = inl (record {
  certified = valid.0 refl;
  right = right.0 refl;
  is = record { status_is = refl; text_is = ap valid_text same };
})
checked-answers line stock plan force cert (Err fault) same valid right broken =
    inr (record { rule = fault.rule; point = fault.point; first = (broken fault).0 refl; is = record { status_is = refl; text_is = refl } })
