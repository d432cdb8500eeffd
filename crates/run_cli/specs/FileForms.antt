-- Forms that read files alone, and what answers by the tables of these files.
use Rattle.std.specs.Prelude.{ℕ, ◌≡◌, ◌≤◌, ◌⊎◌, false, List, [], ◌∷◌, Option, None, Some}
use Rattle.line_tables.specs.Line.{LineView}
use Rattle.plan_tables.specs.Plan.{PlanView}
use Rattle.stock_tables.specs.Stock.{StockView}
use Rattle.unit_rules.specs.declared.Zone.{Zone}
use Rattle.run_io.specs.Fetches.{Files}
use Rattle.certificate.specs.Texts.{CertView}
use Rattle.run_words.specs.Requests.{CaseNames}
use Rattle.run_files.specs.Files.{File, case_files, cert_reading, claim_files, edits_reading, line_file, line_reading, most_cells, plan_reading, stock_file, stock_reading, table_in}
use Rattle.run_files.specs.Statuses.{status_text}
use Rattle.run_files.specs.declared.status.Status.{Status}
use Rattle.run_files.specs.declared.status.Status.TheVariants.{Done, NotValid, Stalled, Usage}
use Rattle.run_cli.specs.Meanings.{Answer, Is, Meaning}

-- at most so many steps
abbrev pub AtMost : (Option Files → ℕ) → Option Files → ℕ → Type 0
AtMost most told n = n ≤ most told

-- a form that reads these files and no input, and that has written nothing where it is stopped
abbrev pub file_form : List File → (Files → Answer) → (Status → Type 0) → (Option Files → ℕ → Type 0)
    → Meaning
file_form reads answers may_end steps = record {
  reads = λ told. reads;
  reads_input = false;
  answers = λ files input. answers files;
  so_far = λ files taken left s text. text ≡ [];
  may_end = may_end;
  steps = λ told taken n. steps told n;
}

-- words that are no form
abbrev pub no_form : Meaning
no_form = file_form [] (λ files. Is Usage (status_text Usage)) (λ s. s ≡ Usage) (AtMost (λ told. 0))

-- the status at the end of a form that can end in one way only
abbrev pub IsDone : Status → Type 0
IsDone s = s ≡ Done

-- the statuses at the end of a form that runs a train
abbrev pub MayStall : Status → Type 0
MayStall s = (s ≡ Done) ⊎ ((point : ℕ) × (s ≡ Stalled point))

-- the statuses at the end of a form that checks a certificate
abbrev pub MayRefute : Status → Type 0
MayRefute s = (s ≡ Done) ⊎ ((rule : ℕ) × (point : ℕ) × (s ≡ NotValid rule point))

-- what answers by the line of a file that is accepted
abbrev pub ByLine : List ℕ → (LineView → Answer) → Files → Answer
ByLine name next files s t =
    (table : LineView) × (table_in line_reading (files name) ≡ Some table) × next table s t

-- what answers by the stock of a file that is accepted
abbrev pub ByStock : List ℕ → (StockView → Answer) → Files → Answer
ByStock name next files s t =
    (table : StockView) × (table_in stock_reading (files name) ≡ Some table) × next table s t

-- what answers by a line and a stock
abbrev pub ByBoth : List ℕ → List ℕ → (LineView → StockView → Answer) → Files → Answer
ByBoth line_name stock_name next files = ByLine line_name (λ line. ByStock stock_name (next line) files) files

-- a form of a line, which takes no steps
abbrev pub line_form : List ℕ → (LineView → Answer) → Meaning
line_form name answers = file_form (line_file name ∷ []) (ByLine name answers) IsDone (AtMost (λ told. 0))

-- a form of a stock, which takes no steps
abbrev pub stock_form : List ℕ → (StockView → Answer) → Meaning
stock_form name answers = file_form (stock_file name ∷ []) (ByStock name answers) IsDone (AtMost (λ told. 0))

-- a form of a train on a line, which takes at most so many steps by the number of cells
abbrev pub train_form : List ℕ → List ℕ → (LineView → StockView → Answer) → (Status → Type 0) → (ℕ → ℕ)
    → Meaning
train_form line_name stock_name answers may_end steps =
    file_form (line_file line_name ∷ stock_file stock_name ∷ []) (ByBoth line_name stock_name answers)
    may_end (AtMost (λ told. steps (most_cells told line_name)))

-- what answers by the plan of a file that is accepted
abbrev pub ByPlan : LineView → List ℕ → (PlanView → Answer) → Files → Answer
ByPlan line name next files s t =
    (table : PlanView) × (table_in (plan_reading line) (files name) ≡ Some table) × next table s t

-- what answers by the restrictions of a file of edits that is accepted; where there is no such file, by none
abbrev pub ByEdits : LineView → Option (List ℕ) → (List (List ℕ × Zone) → Answer) → Files → Answer
ByEdits line None next files s t = next [] s t
ByEdits line (Some name) next files s t =
    (force : List (List ℕ × Zone)) × (table_in (edits_reading line) (files name) ≡ Some force) × next force s t

-- what answers by a line, a stock, a plan and the restrictions in force
abbrev pub CaseAnswer : Type 1
CaseAnswer = LineView → StockView → PlanView → List (List ℕ × Zone) → Answer

abbrev pub ByCase : CaseNames → CaseAnswer → Files → Answer
ByCase names next files =
    ByBoth names.line names.stock
    (λ line stock. ByPlan line names.plan (λ plan. ByEdits line names.edits (next line stock plan) files) files) files

-- a form of a train on a line by a plan
abbrev pub case_form : CaseNames → CaseAnswer → (Status → Type 0) → (Option Files → ℕ) → Meaning
case_form names answers may_end steps = file_form (case_files names) (ByCase names answers) may_end (AtMost steps)

-- what answers by the certificate of a file that is accepted
abbrev pub ByCert : List ℕ → (CertView → Answer) → Files → Answer
ByCert name next files s t =
    (cert : CertView) × (table_in cert_reading (files name) ≡ Some cert) × next cert s t

-- what answers by a case and a certificate
abbrev pub ClaimAnswer : Type 1
ClaimAnswer = LineView → StockView → PlanView → List (List ℕ × Zone) → CertView → Answer

abbrev pub ByClaim : CaseNames → List ℕ → ClaimAnswer → Files → Answer
ByClaim names cert_name next files =
    ByCase names (λ line stock plan force. ByCert cert_name (next line stock plan force) files) files

-- a form of a certificate of a train on a line by a plan
abbrev pub claim_form : CaseNames → List ℕ → ClaimAnswer → (Status → Type 0) → (Option Files → ℕ) → Meaning
claim_form names cert_name answers may_end steps =
    file_form (claim_files names cert_name) (ByClaim names cert_name answers) may_end (AtMost steps)
