-- Laws of the answers, which follow from the definitions alone.
use Rattle.std.specs.Prelude.{ℕ, ◌≡◌, List, [], Option, None, Some}
use Rattle.certificate.specs.Texts.{CertView}
use Rattle.line_tables.specs.Line.{LineView}
use Rattle.report_text.specs.Texts.{valid_text}
use Rattle.run_io.specs.Fetches.{Files}
use Rattle.run_words.specs.Requests.{CaseNames}
use Rattle.run_words.specs.declared.requests.Print.TheVariants as print
use Rattle.session_replies.specs.Asked.Asked.{Certificate}
use Rattle.session_replies.specs.Cases.{CaseView}
use Rattle.session_replies.specs.Replies.{Replies}
use Rattle.unit_rules.specs.declared.Zone.{Zone}
use Rattle.run_files.specs.Files.{edits_reading, line_reading, plan_reading, stock_reading, table_in}
use Rattle.run_files.specs.declared.status.Status.{Status}
use Rattle.run_files.specs.declared.status.Status.TheVariants.{Done}
use Rattle.run_cli.specs.Check.{check_meaning}
use Rattle.run_cli.specs.Plan.{plan_meaning}

-- these restrictions are in force by a file of edits; where there is none, none are
abbrev pub LeavesInForce : LineView → Option (List ℕ) → Files → List (List ℕ × Zone) → Type 0
LeavesInForce line None files force = force ≡ []
LeavesInForce line (Some name) files force = table_in (edits_reading line) (files name) ≡ Some force

-- the files of these names read as this case
pub record ReadAs (names : CaseNames) (files : Files) (c : CaseView) : Type 0 where
  pub is_line : table_in line_reading (files names.line) ≡ Some c.line
  pub is_stock : table_in stock_reading (files names.stock) ≡ Some c.stock
  pub is_plan : table_in (plan_reading c.line) (files names.plan) ≡ Some c.plan
  pub in_force : LeavesInForce c.line names.edits files c.force

-- over files which read as a case, the text of one more is answered `valid` where that is checked
abbrev pub IsValidThere : CaseNames → List ℕ → Files → List ℕ → Type 0
IsValidThere names cert_name files t = files cert_name ≡ Some t
    → (cert : CertView) × (check_meaning names cert_name).answers files [] Done (valid_text cert.verdict)

-- a certificate that is printed for some files is valid over these, and over any others that read as the same case, such as
-- those with another file of edits that leaves the same restrictions in force
abbrev pub PrintedAreValid : Type 0
PrintedAreValid = (names other : CaseNames) (cert_name : List ℕ) (files there : Files) (s : Status) (t : List ℕ)
    → ((c : CaseView) → ReadAs names files c → ReadAs other there c)
    → (plan_meaning print.Cert names).answers files [] s t → IsValidThere other cert_name there t

-- so is a certificate that a session replies, over files that read as its case
abbrev pub RepliedAreValid : Type 0
RepliedAreValid = (names : CaseNames) (cert_name : List ℕ) (files : Files) (c : CaseView) (t : List ℕ)
    → ReadAs names files c → Replies c Certificate t → IsValidThere names cert_name files t
