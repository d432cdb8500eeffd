-- The bounds that a plan sets on the speed of a train.
use Rattle.std.specs.Prelude.{ℕ, List, ◌∷◌, filter, map}
use Rattle.unit_rules.specs.declared.Bound.{Bound}
use Rattle.run_rules.specs.Speeds.{squared}
use Rattle.plan_tables.specs.declared.plan.Call.{Call}
use Rattle.plan_tables.specs.Calls.{is_stop}
use Rattle.plan_tables.specs.Plan.{PlanView}

-- the stops of a plan, in order
abbrev pub stops_of : PlanView → List Call
stops_of plan = filter is_stop plan.calls

-- the bound of a stop: the train stands there
abbrev pub stand_at : Call → Bound
stand_at stop = record { at = stop.at; most = 0 }

-- the bounds of a plan on a line of that length: at the line's two ends the speeds at which the train enters and leaves
-- it, and a stand at each stop
abbrev pub bounds_of : PlanView → ℕ → List Bound
bounds_of plan length =
    record { at = 0; most = squared plan.enter } ∷ record { at = length; most = squared plan.leave } ∷ map stand_at (stops_of plan)
