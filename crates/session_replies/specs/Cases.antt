-- A case: a train on a line by a plan, under the restrictions in force.
use Rattle.std.specs.Prelude.{ℕ, List}
use Rattle.case_rules.specs.Case.{train_rule}
use Rattle.incr_envelope.specs.Envelope.{EnvelopeView, caps_under}
use Rattle.line_tables.specs.Line.{IsLine, LineView}
use Rattle.plan_tables.specs.Plan.{PlanLiesOn, PlanView}
use Rattle.run_rules.specs.Runs.{IsMonotone, StepRule}
use Rattle.run_rules.specs.Speeds.{squared}
use Rattle.stock_tables.specs.Stock.{IsStock, StockView}
use Rattle.unit_rules.specs.declared.Zone.{Zone}

-- a line, a stock and a plan, and the restrictions in force, each with its ID
pub record CaseView : Type 0 where
  pub line : LineView
  pub stock : StockView
  pub plan : PlanView
  pub force : List (List ℕ × Zone)

abbrev pub case_of : LineView → StockView → PlanView → List (List ℕ × Zone) → CaseView
case_of line stock plan force = record { line = line; stock = stock; plan = plan; force = force }

-- the case of an envelope
abbrev pub case_in : EnvelopeView → CaseView
case_in v = case_of v.line v.stock v.plan v.force

-- its step rule and its caps
abbrev pub rule_of : CaseView → StepRule
rule_of c = train_rule c.line c.stock

abbrev pub caps_of : CaseView → List ℕ
caps_of c = caps_under c.line c.stock c.plan c.force

-- its line and its stock are in their ranges, its plan is on its line, and its step rule never falls as the speed rises
pub record IsLawfulCase (c : CaseView) : Type 0 where
  pub line : IsLine c.line
  pub stock : IsStock c.stock
  pub plan : PlanLiesOn c.line.length c.plan
  pub monotone : IsMonotone (rule_of c) c.line.length (squared c.stock.top)
