-- What the form `check` means: that a certificate is the right one, or the first rule that it breaks.
use Rattle.std.specs.Prelude.{ℕ, ◌+◌, ◌*◌, ◌⊎◌, ◌≡◌, List, [], Option, Result, Ok, Err}
use Rattle.std.proofs.Common.{arith, inl, inr, refl}
use Rattle.case_rules.specs.Case.{train_rule}
use Rattle.cert_check.specs.Faults.{IsFirstBroken}
use Rattle.cert_check.specs.Laws.{IsCertificateOf}
use Rattle.cert_check.specs.Rules.{IsCertified}
use Rattle.cert_check.specs.declared.CertFault.{CertFault}
use Rattle.certificate.specs.Texts.{CertView}
use Rattle.incr_envelope.specs.Envelope.{caps_under}
use Rattle.line_tables.specs.Line.{LineView}
use Rattle.plan_tables.specs.Plan.{PlanView}
use Rattle.report_text.specs.Texts.{valid_text}
use Rattle.run_io.specs.Fetches.{Files}
use Rattle.run_words.specs.Requests.{CaseNames, case_view}
use Rattle.run_words.specs.declared.requests.CheckForm.{CheckForm}
use Rattle.stock_tables.specs.Stock.{StockView}
use Rattle.unit_rules.specs.declared.Reach.{Reach}
use Rattle.unit_rules.specs.declared.Zone.{Zone}
use Rattle.run_files.specs.Files.{IsClaim, most_cells}
use Rattle.run_files.specs.Statuses.Extent.{whole}
use Rattle.run_files.specs.Statuses.{extent_of, status_text}
use Rattle.run_files.specs.declared.cases.Claim.{Claim}
use Rattle.run_files.specs.declared.status.Status.TheVariants.{Done, NotValid}
use Rattle.run_files.specs.declared.status.Status.{Status}
use Rattle.run_cli.specs.FileForms.{ClaimAnswer, MayRefute, claim_form}
use Rattle.run_cli.specs.FileLaws.{cells_allow, claim_meant}
use Rattle.run_cli.specs.Meanings.{Is, Meaning}
use Rattle.run_cli.specs.Serves.{IsMeant}
use Rattle.run_cli.specs.declared.report.CheckReport.{CheckReport}

-- the certificate breaks none of the rules; so its lists are the braking list and the envelope of the train on the line by the
-- plan, under the restrictions in force, and its verdict is right
pub record ShowsValid (line : LineView) (stock : StockView) (plan : PlanView) (force : List (List ℕ × Zone)) (cert : CertView) (s : Status) (t : List ℕ) : Type 0 where
  pub certified : IsCertified (train_rule line stock) (caps_under line stock plan force) cert.c cert.e cert.verdict
  pub right : IsCertificateOf (train_rule line stock) (caps_under line stock plan force) cert.c cert.e cert.verdict
  pub is : Is Done (valid_text cert.verdict) s t

-- the first of the rules that it breaks, and the point at which it does
pub record ShowsFault (line : LineView) (stock : StockView) (plan : PlanView) (force : List (List ℕ × Zone)) (cert : CertView) (s : Status) (t : List ℕ) : Type 0 where
  pub rule : ℕ
  pub point : ℕ
  pub first : IsFirstBroken (train_rule line stock) (caps_under line stock plan force) cert.c cert.e cert.verdict point rule
  pub is : Is (NotValid rule point) (status_text (NotValid rule point)) s t

-- what answers by a case and a certificate
abbrev pub IsChecked : ClaimAnswer
IsChecked line stock plan force cert s t =
    ShowsValid line stock plan force cert s t ⊎ ShowsFault line stock plan force cert s t

-- how many steps the check of so many cells takes
abbrev pub check_steps : ℕ → ℕ
check_steps cells = 4 * (cells + 1)

-- what the form means
abbrev pub check_meaning : CaseNames → List ℕ → Meaning
check_meaning names cert_name =
    claim_form names cert_name IsChecked MayRefute (λ told. check_steps (most_cells told names.line))

-- the status of what was found, and its text
abbrev pub found_status : Result Reach CertFault → Status
found_status (Ok reach) = Done
found_status (Err fault) = NotValid fault.rule fault.point

abbrev pub found_text : Result Reach CertFault → List ℕ
found_text (Ok reach) = valid_text reach
found_text (Err fault) = status_text (NotValid fault.rule fault.point)

found-whole : (r : Result Reach CertFault) → extent_of (found_status r) ≡ whole
found-whole (Ok reach) = refl
found-whole (Err fault) = refl

found-ends : (r : Result Reach CertFault) → MayRefute (found_status r)
found-ends (Ok reach) = inl refl
found-ends (Err fault) = inr (fault.rule, fault.point, refl)

-- the report is what the form means
pub check_means : (f : CheckForm) (told : Option Files) (c : Claim) (r : CheckReport) → IsClaim (case_view f.case) f.cert.now told c
    → IsChecked c.case.line c.case.stock c.case.plan c.case.force.pairs c.cert (found_status r.found) (found_text r.found)
    → IsMeant (check_meaning (case_view f.case) f.cert.now) told (found_status r.found) (found_text r.found)
check_means f told c r at is =
    claim_meant (case_view f.case) f.cert.now IsChecked MayRefute (λ files. check_steps (most_cells files f.case.line.now)) told c (found_status r.found) (found_text r.found) at is
    (found-whole r.found) (found-ends r.found)

pub check_allows : (f : CheckForm) (told : Option Files) (c : Claim) → IsClaim (case_view f.case) f.cert.now told c
    → (check_meaning (case_view f.case) f.cert.now).steps told [] (check_steps c.case.line.length)
check_allows f told c at = cells_allow check_steps (λ a b h. omega (arith, h)) told f.case.line.now c.case.line at.case.line
