use Rattle.std.proofs.Common.{arith}
use Rattle.std.proofs.lemmas.Int.{ints}
use Rattle.step_rule.proofs.BrakeFacts.{fall_from-below, squared-root}
use Rattle.step_rule.proofs.Rule.kmh_begun.Goals as goal

pub returns-then-fall_at_kmh-from-clause-braked : goal.returns-then-fall_at_kmh-from-clause-braked
returns-then-fall_at_kmh-from-clause-braked c =
    let value = c.fall_at_kmh.ensures.value in
    let slow = c.if-fall_at_kmh-from.true in
    omega (arith, ints)

pub returns-clause-braked : goal.returns-clause-braked
returns-clause-braked c =
    let kept = c.top-top.ensures.kept in
    let top = c.top-top.ensures.top in
    let below = squared-root c.args.w c.isqrt.result c.min.result c.isqrt.ensures.square_le (omega arith) in
    fall_from-below c.args.self.now c.min.result c.args.w kept (omega arith) below
