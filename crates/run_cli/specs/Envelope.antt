-- What the form `envelope` means: the fastest run of a train over a line, or the first point that it can't reach.
use Rattle.std.specs.Prelude.{ℕ, ◌+◌, ◌*◌, ◌⊎◌, List, ◌≡◌, [], Option}
use Rattle.std.proofs.Common.{refl, inl, inr, arith}
use Rattle.case_rules.specs.Case.{train_rule}
use Rattle.incr_envelope.specs.Envelope.{caps_under}
use Rattle.incr_envelope.specs.declared.run.Drive.{Drive}
use Rattle.line_tables.specs.Line.{LineView}
use Rattle.plan_tables.specs.Plan.{PlanView, empty_plan}
use Rattle.report_text.specs.Texts.{envelope_text, list_text, reach_text}
use Rattle.run_io.specs.Fetches.{Files}
use Rattle.run_rules.specs.Runs.{IsGreatestRun, IsStalled}
use Rattle.run_rules.specs.Runs.{ReachesAs}
use Rattle.run_words.specs.declared.requests.EnvelopeForm.{EnvelopeForm}
use Rattle.stock_tables.specs.Stock.{StockView}
use Rattle.unit_rules.specs.declared.Reach.TheVariants as reach
use Rattle.unit_rules.specs.declared.Reach.{Reach}
use Rattle.unit_rules.specs.declared.Zone.{Zone}
use Rattle.run_files.specs.Files.{AreTables}
use Rattle.run_files.specs.Statuses.Extent.{whole}
use Rattle.run_files.specs.Statuses.{extent_of}
use Rattle.run_files.specs.declared.status.Status.TheVariants.{Done, Stalled}
use Rattle.run_files.specs.declared.status.Status.{Status}
use Rattle.run_cli.specs.FileForms.{CaseAnswer, MayStall, train_form}
use Rattle.run_cli.specs.FileLaws.{cells_allow, train_meant}
use Rattle.run_cli.specs.Meanings.{Answer, Is, Meaning}
use Rattle.run_cli.specs.Serves.{IsMeant}

-- the greatest run of the train on the line by the plan, under the restrictions in force
pub record ShowsRun (line : LineView) (stock : StockView) (plan : PlanView) (force : List (List ℕ × Zone)) (s : Status) (t : List ℕ) : Type 0 where
  pub list : List ℕ
  pub is_list : IsGreatestRun (train_rule line stock) (caps_under line stock plan force) list
  pub is : Is Done (list_text list) s t

-- the point at which the train is stalled on the line by the plan, under the restrictions in force
pub record ShowsStall (line : LineView) (stock : StockView) (plan : PlanView) (force : List (List ℕ × Zone)) (s : Status) (t : List ℕ) : Type 0 where
  pub point : ℕ
  pub is_stalled : IsStalled (train_rule line stock) (caps_under line stock plan force) point
  pub is : Is (Stalled point) (reach_text (reach.Stalled point)) s t

-- the envelope of the train on the line by the plan, under the restrictions in force: its greatest run or its stall
abbrev pub IsEnvelope : CaseAnswer
IsEnvelope line stock plan force s t = ShowsRun line stock plan force s t ⊎ ShowsStall line stock plan force s t

-- the envelope of a train that stands at both ends of the line and calls nowhere, where nothing is in force
abbrev pub IsFreeEnvelope : LineView → StockView → Answer
IsFreeEnvelope line stock = IsEnvelope line stock empty_plan []

-- what the form means
abbrev pub envelope_meaning : List ℕ → List ℕ → Meaning
envelope_meaning line_name stock_name =
    train_form line_name stock_name IsFreeEnvelope MayStall (λ cells. 33 * (cells + 1) + cells)

-- the status under which how far the train gets is written
abbrev pub envelope_status : Reach → Status
envelope_status reach.Whole = Done
envelope_status (reach.Stalled k) = Stalled k

-- what the walks give answers, as a run or as a stall
pub reaches-IsEnvelope : (line : LineView) (stock : StockView) (plan : PlanView) (force : List (List ℕ × Zone)) (speeds : List ℕ) (r : Reach)
    → ReachesAs (train_rule line stock) (caps_under line stock plan force) speeds r → IsEnvelope line stock plan force (envelope_status r) (envelope_text speeds r)
reaches-IsEnvelope line stock plan force speeds reach.Whole h =
    inl (record { list = speeds; is_list = h; is = record { status_is = refl; text_is = refl } })
reaches-IsEnvelope line stock plan force speeds (reach.Stalled k) h =
    inr (record { point = k; is_stalled = h.0; is = record { status_is = refl; text_is = refl } })

pub envelope_status-whole : (r : Reach) → extent_of (envelope_status r) ≡ whole
envelope_status-whole reach.Whole = refl
envelope_status-whole (reach.Stalled k) = refl

pub envelope_status-ends : (r : Reach) → MayStall (envelope_status r)
envelope_status-ends reach.Whole = inl refl
envelope_status-ends (reach.Stalled k) = inr (k, refl)

pub envelope_means : (f : EnvelopeForm) (told : Option Files) (both : LineView × StockView) (r : Drive)
    → AreTables f.line.now f.stock.now told both
    → ReachesAs (train_rule both.0 both.1) (caps_under both.0 both.1 empty_plan []) r.speeds.items r.reach
    → IsMeant (envelope_meaning f.line.now f.stock.now) told (envelope_status r.reach) (envelope_text r.speeds.items r.reach)
envelope_means f told both r at is =
    train_meant f.line.now f.stock.now IsFreeEnvelope MayStall (λ cells. 33 * (cells + 1) + cells) told both (envelope_status r.reach)
    (envelope_text r.speeds.items r.reach) at (reaches-IsEnvelope both.0 both.1 empty_plan [] r.speeds.items r.reach is)
    (envelope_status-whole r.reach) (envelope_status-ends r.reach)

pub envelope_allows : (f : EnvelopeForm) (told : Option Files) (both : LineView × StockView)
    → AreTables f.line.now f.stock.now told both
    → (envelope_meaning f.line.now f.stock.now).steps told [] (33 * (both.0.length + 1) + both.0.length)
envelope_allows f told both at = cells_allow (λ cells. 33 * (cells + 1) + cells) (λ a b h. omega (arith, h)) told f.line.now both.0 at.0
