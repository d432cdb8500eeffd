use Rattle.std.proofs.Common.{arith}
use Rattle.std.proofs.lemmas.Int.{ints}
use Rattle.limit_profile.specs.Profile.{caps}
use Rattle.limit_profile.proofs.CapFacts.{length-caps}
use Rattle.step_rule.specs.Motion.{step_rule_of}
use Rattle.brake_caps.proofs.NumberFacts.{IsGreatestNumber-below, IsGreatestNumber-cap}
use Rattle.step_rule.proofs.BrakeFacts.{low-le}
use Rattle.brake_caps.proofs.number_at.Goals as goal

pub returns-then-point-cells-clause-number : goal.returns-then-point-cells-clause-number
returns-then-point-cells-clause-number g c =
    let limits = c.args.limits.now in
    let long = length-caps limits in
    IsGreatestNumber-cap (step_rule_of c.args.rule.now) (caps limits) c.args.c.now c.args.point c.cap_near-cap.result c.cap_near-cap.ensures.listed (λ l. absurd (omega arith))

pub returns-then-cap-next-clause-number : goal.returns-then-cap-next-clause-number
returns-then-cap-next-clause-number g c =
    let limits = c.args.limits.now in
    let slows = low-le c.args.rule.now c.cells.ensures.kept c.args.point c.cap_near-cap.result (rw c.requires.same_top at c.cap_near-cap.ensures.most) in
    IsGreatestNumber-cap (step_rule_of c.args.rule.now) (caps limits) c.args.c.now c.args.point c.cap_near-cap.result c.cap_near-cap.ensures.listed (λ l. omega (arith, ints))

pub returns-clause-number : goal.returns-clause-number
returns-clause-number g c =
    let limits = c.args.limits.now in
    let long = length-caps limits in
    let back = c.back_near.ensures in
    let cap = c.cap_near-cap.ensures.listed in
    IsGreatestNumber-below (step_rule_of c.args.rule.now) (caps limits) c.args.c.now c.args.point _ _ c.back_near.result back.most back.braked back.greatest (omega arith) (omega arith) (omega arith)
