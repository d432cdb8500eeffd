use Rattle.std.proofs.Common.{◌≡◌, ◌∷◌, map, take}
use Rattle.std.specs.Prelude.{filter}
use Rattle.plan_tables.specs.Bounds.{stand_at}
use Rattle.plan_tables.specs.Calls.{is_stop}
use Rattle.plan_tables.proofs.speed_bounds.bounds.Given as goal

abbrev pub invariant-loop-call : goal.invariant-loop-call
invariant-loop-call l =
    l.bounds.items ≡ record { at = 0; most = l.enter } ∷ record { at = l.length; most = l.leave } ∷ map stand_at (filter is_stop (take l.call-index l.call-items))
