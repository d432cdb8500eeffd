use Rattle.std.proofs.Common.{arith}
use Rattle.allowances.proofs.CallFacts.{seconds_before-small}
use Rattle.allowances.proofs.arrival.seconds_before.Goals as goal

pub overflow_add-seconds : goal.overflow_add-seconds
overflow_add-seconds c =
    let small = seconds_before-small c.args.plan.now c.args.point c.loop-call.invariant.plan in
    omega (arith, small, c.loop-call.invariant.seconds, c.from-seconds-then-call-point.ensures)

pub returns-clause-few : goal.returns-clause-few
returns-clause-few c =
    let small = seconds_before-small c.args.plan.now c.args.point c.loop-call.invariant.plan in
    omega (arith, small, c.loop-call.invariant.seconds)
