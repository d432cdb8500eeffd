-- What contracts see of an envelope: a train on a line by a plan, the restrictions in force, and what is kept of its fastest run.
use Rattle.std.specs.Prelude.{◌≡◌, ℕ, ◌+◌, ◌≤◌, nat_lt, if◌then◌else◌, List, length, All, Option, Some, None}
use Rattle.unit_rules.specs.Zone.{LiesOn}
use Rattle.unit_rules.specs.declared.Reach.{Reach}
use Rattle.unit_rules.specs.declared.Zone.{Zone}
use Rattle.run_rules.specs.Caps.{binds_at}
use Rattle.run_rules.specs.Runs.{IsBrakingList, ReachesAs, StepRule}
use Rattle.run_rules.specs.Walks.{count_of}
use Rattle.line_tables.specs.Line.{LineView}
use Rattle.stock_tables.specs.Stock.{StockView}
use Rattle.plan_tables.specs.Plan.{PlanLiesOn, PlanView}
use Rattle.time_brackets.specs.Sums.{KeptSums, StandsFor}
use Rattle.time_brackets.specs.declared.Bracket.{Bracket}
use Rattle.allowances.specs.Arrivals.{arrival}
use Rattle.case_rules.specs.Case.{plan_caps, train_rule}
use Rattle.restrictions.specs.Force.{AreDistinct, most_in_force, zones_of}
use Rattle.incr_envelope.specs.Touched.{Lists, touched}

-- a case and the restrictions in force, each with its ID; how many more can be put with no more memory; the braking list, the
-- squared speeds up to the end of the line or the stall, how far the train gets, and the sums of its times
pub record EnvelopeView : Type 0 where
  pub line : LineView
  pub stock : StockView
  pub plan : PlanView
  pub force : List (List ℕ × Zone)
  pub spare : ℕ
  pub brakes : List ℕ
  pub speeds : List ℕ
  pub reach : Reach
  pub sums : KeptSums

-- the caps of a train on a line by a plan, under the restrictions in force
abbrev pub caps_under : LineView → StockView → PlanView → List (List ℕ × Zone) → List ℕ
caps_under line stock plan force = plan_caps line stock plan (zones_of force)

-- the step rule and the caps of an envelope
abbrev pub rule_in : EnvelopeView → StepRule
rule_in v = train_rule v.line v.stock

abbrev pub caps_in : EnvelopeView → List ℕ
caps_in v = caps_under v.line v.stock v.plan v.force

-- what is kept is what the definitions give for the case and the restrictions in force, whose IDs are distinct, and which are no
-- more than may be
pub record IsFromScratch (v : EnvelopeView) : Type 0 where
  pub lies : PlanLiesOn v.line.length v.plan
  pub zones_lie : All (LiesOn v.line.length) (zones_of v.force)
  pub distinct : AreDistinct v.force
  pub few : length v.force ≤ most_in_force
  pub brakes : IsBrakingList (rule_in v) (caps_in v) v.brakes
  pub reaches : ReachesAs (rule_in v) (caps_in v) v.speeds v.reach
  pub known : length v.speeds ≡ count_of (v.line.length + 1) v.reach
  pub sums : StandsFor v.sums v.speeds (length v.speeds)

-- an envelope is of this train on this line by this plan, with these restrictions in force
pub record IsOf (line : LineView) (stock : StockView) (plan : PlanView) (force : List (List ℕ × Zone)) (v : EnvelopeView) : Type 0 where
  pub same_line : v.line ≡ line
  pub same_stock : v.stock ≡ stock
  pub same_plan : v.plan ≡ plan
  pub in_force : v.force ≡ force

-- an envelope with another number of restrictions that can be put with no more memory
abbrev pub respared : EnvelopeView → ℕ → EnvelopeView
respared v n = record v { spare = n }

-- two envelopes are of one train on one line by one plan
pub record IsOneCase (a b : EnvelopeView) : Type 0 where
  pub line : a.line ≡ b.line
  pub stock : a.stock ≡ b.stock
  pub plan : a.plan ≡ b.plan

-- the lists of an envelope
abbrev pub lists_in : EnvelopeView → Lists
lists_in v = record { brakes = v.brakes; speeds = v.speeds }

-- how many points an edit with a zone touches
abbrev pub touched_by : Zone → EnvelopeView → EnvelopeView → ℕ
touched_by zone before after =
    touched (λ i. binds_at before.line.length before.stock.length i zone) (lists_in before) (lists_in after) (before.line.length + 1)

-- when the train comes to a point, unless it is at or past its stall
abbrev pub arrival_in : EnvelopeView → ℕ → Option Bracket
arrival_in v i = if nat_lt i (length v.speeds) then Some (arrival v.plan v.speeds i) else None
