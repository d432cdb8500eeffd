use Rattle.std.proofs.Common.{◌≡◌, arith}
use Rattle.std.proofs.lemmas.Grind.{common_steps}
use Rattle.plan_tables.specs.Bounds.{bounds_of}
use Rattle.plan_tables.proofs.BoundFacts.{bounds_of-lie}
use Rattle.plan_tables.proofs.speed_bounds.bounds.Goals as goal

pub returns-clause-lie : goal.returns-clause-lie
returns-clause-lie c =
    let same : c.loop-call.bounds.items ≡ bounds_of c.args.plan.now c.args.length = grind (arith, common_steps) in
    rw same (bounds_of-lie c.args.plan.now c.args.length c.requires)
