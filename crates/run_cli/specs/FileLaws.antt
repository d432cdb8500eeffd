-- That the reports of forms that read files alone are what these forms mean, and that their steps are allowed.
use Rattle.std.proofs.Common.{◌≡◌, ◌≤◌, ℕ, List, Option, Some, None, refl, subst, arith}
use Rattle.unit_rules.specs.Limits.{longest_line}
use Rattle.line_tables.specs.Line.{LineView}
use Rattle.run_io.specs.Fetches.{Files}
use Rattle.stock_tables.specs.Stock.{StockView}
use Rattle.unit_rules.specs.declared.Zone.{Zone}
use Rattle.run_words.specs.Requests.{CaseNames}
use Rattle.run_files.specs.Files.{AreInForce, AreTables, File, IsCase, IsClaim, IsRead, line_reading, most_cells, stock_reading}
use Rattle.run_files.specs.Statuses.{extent_of}
use Rattle.run_files.specs.Statuses.Extent.{whole}
use Rattle.run_files.specs.declared.cases.Case.{Case}
use Rattle.run_files.specs.declared.cases.Claim.{Claim}
use Rattle.run_files.specs.declared.status.Status.{Status}
use Rattle.run_files.specs.declared.status.Status.TheVariants.{Done}
use Rattle.run_cli.specs.FileForms.{AtMost, ByCert, ByEdits, CaseAnswer, ClaimAnswer, case_form, claim_form, file_form, line_form, stock_form, train_form}
use Rattle.run_cli.specs.Meanings.{Answer, Is, IsFileForm}
use Rattle.run_cli.specs.Serves.{IsMeant}

-- a form that reads files alone has written nothing where it is stopped, and may do without a step
pub alone : (reads : List File) (answers : Files → Answer) (may_end : Status → Type 0) (most : Option Files → ℕ)
    → IsFileForm (file_form reads answers may_end (AtMost most))
alone reads answers may_end most = record {
  no_input = refl;
  quiet = record { silent = λ files left s is. refl; idle = λ told. omega arith };
}

-- what answers by a line, by a stock, or by both is meant where these were read
pub line_meant : (name : List ℕ) (answers : LineView → Answer) (told : Option Files) (line : LineView) (t : List ℕ)
    → IsRead line_reading told name line → answers line Done t → IsMeant (line_form name answers) told Done t
line_meant name answers None line t at h = record { answers = tt; is_whole = refl; may_end = refl }
line_meant name answers (Some files) line t at h = record { answers = (line, at.same, h); is_whole = refl; may_end = refl }

pub stock_meant : (name : List ℕ) (answers : StockView → Answer) (told : Option Files) (stock : StockView) (t : List ℕ)
    → IsRead stock_reading told name stock → answers stock Done t → IsMeant (stock_form name answers) told Done t
stock_meant name answers None stock t at h = record { answers = tt; is_whole = refl; may_end = refl }
stock_meant name answers (Some files) stock t at h = record { answers = (stock, at.same, h); is_whole = refl; may_end = refl }

pub train_meant : (line_name stock_name : List ℕ) (answers : LineView → StockView → Answer) (may_end : Status → Type 0) (steps : ℕ → ℕ)
    (told : Option Files) (both : LineView × StockView) (s : Status) (t : List ℕ) → AreTables line_name stock_name told both
    → answers both.0 both.1 s t → extent_of s ≡ whole → may_end s → IsMeant (train_form line_name stock_name answers may_end steps) told s t
train_meant line_name stock_name answers may_end steps None both s t at h is ends = record { answers = tt; is_whole = is; may_end = ends }
train_meant line_name stock_name answers may_end steps (Some files) both s t at h is ends =
    record { answers = (both.0, at.0.same, (both.1, at.1.same, h)); is_whole = is; may_end = ends }

-- what answers by the restrictions in force, where these were read
edits_meant : (line : LineView) (name : Option (List ℕ)) (files : Files) (force : List (List ℕ × Zone)) (answers : List (List ℕ × Zone) → Answer) (s : Status) (t : List ℕ)
    → AreInForce line name (Some files) force → answers force s t → ByEdits line name answers files s t
edits_meant line None files force answers s t none h = subst (λ (ps : List (List ℕ × Zone)). answers ps s t) none h
edits_meant line (Some name) files force answers s t at h = (force, at.same, h)

pub case_meant : (names : CaseNames) (answers : CaseAnswer) (may_end : Status → Type 0) (steps : Option Files → ℕ)
    (told : Option Files) (c : Case) (s : Status) (t : List ℕ) → IsCase names told c
    → answers c.line c.stock c.plan c.force.pairs s t → extent_of s ≡ whole → may_end s → IsMeant (case_form names answers may_end steps) told s t
case_meant names answers may_end steps None c s t at h is ends = record { answers = tt; is_whole = is; may_end = ends }
case_meant names answers may_end steps (Some files) c s t at h is ends =
    let by_edits = edits_meant c.line names.edits files c.force.pairs (answers c.line c.stock c.plan) s t at.force h in
    record { answers = (c.line, at.line.same, (c.stock, at.stock.same, (c.plan, at.plan.same, by_edits))); is_whole = is; may_end = ends }

-- and by a case and a certificate
pub claim_meant : (names : CaseNames) (cert_name : List ℕ) (answers : ClaimAnswer) (may_end : Status → Type 0) (steps : Option Files → ℕ)
    (told : Option Files) (c : Claim) (s : Status) (t : List ℕ) → IsClaim names cert_name told c
    → answers c.case.line c.case.stock c.case.plan c.case.force.pairs c.cert s t → extent_of s ≡ whole → may_end s → IsMeant (claim_form names cert_name answers may_end steps) told s t
claim_meant names cert_name answers may_end steps None c s t at h is ends = record { answers = tt; is_whole = is; may_end = ends }
claim_meant names cert_name answers may_end steps (Some files) c s t at h is ends =
    let next : CaseAnswer = λ line stock plan force. ByCert cert_name (answers line stock plan force) files in
    let by_cert : next c.case.line c.case.stock c.case.plan c.case.force.pairs s t = (c.cert, at.cert.same, h) in
    let case = at.case in
    let by_edits = edits_meant c.case.line names.edits files c.case.force.pairs (next c.case.line c.case.stock c.case.plan) s t case.force by_cert in
    record { answers = (c.case.line, case.line.same, (c.case.stock, case.stock.same, (c.case.plan, case.plan.same, by_edits))); is_whole = is; may_end = ends }

-- a line that was read has no more cells than the line of its file, so no more steps are taken than by these
pub cells_allow : (steps : ℕ → ℕ) (rises : (a b : ℕ) → a ≤ b → steps a ≤ steps b) (told : Option Files) (name : List ℕ) (line : LineView)
    → IsRead line_reading told name line → steps line.length ≤ steps (most_cells told name)
cells_allow steps rises None name line at = rises line.length longest_line at.kept.long
cells_allow steps rises (Some files) name line at = rw at.same (rises line.length line.length (omega arith))

-- a status and a text are the ones that answer
pub is_done : (t u : List ℕ) → t ≡ u → Is Done u Done t
is_done t u e = record { status_is = refl; text_is = e }
