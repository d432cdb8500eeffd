-- The bounds of a plan, stop by stop.
use Rattle.std.proofs.Common.{◌≤◌, ℕ, ◌∷◌, All, map, arith}
use Rattle.std.specs.Prelude.{filter}
use Rattle.std.proofs.lemmas.List.Elements.{All-cons, All-filter, All-map}
use Rattle.unit_rules.specs.declared.Bound.{Bound}
use Rattle.run_rules.specs.Speeds.{squared}
use Rattle.plan_tables.specs.Bounds.{bounds_of, stand_at}
use Rattle.plan_tables.specs.Calls.{is_stop}
use Rattle.plan_tables.specs.Plan.{PlanLiesOn, PlanView}

-- the bounds of a plan lie on its line
pub bounds_of-lie : (plan : PlanView) (length : ℕ) → PlanLiesOn length plan → All (λ b. b.at ≤ length) (bounds_of plan length)
bounds_of-lie plan length h =
    let P : Bound → Type 0 = λ b. b.at ≤ length in
    let stands = map stand_at (filter is_stop plan.calls) in
    let each : All P stands = All-map P stand_at (filter is_stop plan.calls) (All-filter is_stop (λ c. c.at ≤ length) plan.calls h.calls) in
    let start : Bound = record { at = 0; most = squared plan.enter } in
    let end : Bound = record { at = length; most = squared plan.leave } in
    All-cons P start (end ∷ stands) (omega arith) (All-cons P end stands (omega arith) each)
