use Rattle.std.proofs.Common.{arith, rules}
use Rattle.std.proofs.lemmas.Bool.{iff_false}
use Rattle.limit_profile.specs.Profile.{caps}
use Rattle.limit_profile.proofs.CapFacts.{length-caps}
use Rattle.step_rule.specs.Motion.{step_rule_of}
use Rattle.cert_check.proofs.FaultFacts.{IsLeastBroken-cap, IsLeastBroken-early, IsLeastBroken-late, IsLeastBroken-speed, IfNone-stands, IfSome-stands, KeepsBraking-cap}
use Rattle.cert_check.proofs.point_fault.Goals as goal

pub returns-then-here-cap-clause-some : goal.returns-then-here-cap-clause-some
returns-then-here-cap-clause-some g c =
    let long = length-caps c.args.limits.now in
    let cap = c.cap_near-cap.ensures.listed in
    IsLeastBroken-cap (step_rule_of c.args.rule.now) (caps c.args.limits.now) c.args.c.now c.args.e.now c.args.point (omega arith) (omega arith)

pub returns-then-brakes_early-clause-some : goal.returns-then-brakes_early-clause-some
returns-then-brakes_early-clause-some g c =
    let long = length-caps c.args.limits.now in
    let cap = c.cap_near-cap.ensures.listed in
    let early = c.brakes_early.ensures.early.0 c.if-brakes_early.true in
    IsLeastBroken-early (step_rule_of c.args.rule.now) (caps c.args.limits.now) c.args.c.now c.args.e.now c.args.point (omega arith) (λ high. omega arith) (rw cap at early)

pub returns-in-Some-clause-some : goal.returns-in-Some-clause-some
returns-in-Some-clause-some g c =
    let long = length-caps c.args.limits.now in
    let braking = KeepsBraking-cap (step_rule_of c.args.rule.now) (caps c.args.limits.now) c.args.c.now c.args.point c.cap_near-cap.result (omega arith) c.cap_near-cap.ensures.listed (omega arith)
    (iff_false c.brakes_early.ensures.early c.if-brakes_early.false) in
    IsLeastBroken-speed (step_rule_of c.args.rule.now) (caps c.args.limits.now) c.args.c.now c.args.e.now c.args.point c.in-Some.broken braking c.in-Some.ensures.some

pub returns-then-not-can_brake-clause-some : goal.returns-then-not-can_brake-clause-some
returns-then-not-can_brake-clause-some g c =
    let long = length-caps c.args.limits.now in
    let braking = KeepsBraking-cap (step_rule_of c.args.rule.now) (caps c.args.limits.now) c.args.c.now c.args.point c.cap_near-cap.result (omega arith) c.cap_near-cap.ensures.listed (omega arith)
    (iff_false c.brakes_early.ensures.early c.if-brakes_early.false) in
    IsLeastBroken-late (step_rule_of c.args.rule.now) (caps c.args.limits.now) c.args.c.now c.args.e.now c.args.point braking c.in_default.ensures.none (iff_false c.can_brake.ensures.brakes (search rules))

pub returns-clause-some : goal.returns-clause-some
returns-clause-some g c =
    let long = length-caps c.args.limits.now in
    let braking = KeepsBraking-cap (step_rule_of c.args.rule.now) (caps c.args.limits.now) c.args.c.now c.args.point c.cap_near-cap.result (omega arith) c.cap_near-cap.ensures.listed (omega arith)
    (iff_false c.brakes_early.ensures.early c.if-brakes_early.false) in
    rw c.then_some.ensures (IfSome-stands (step_rule_of c.args.rule.now) (caps c.args.limits.now) c.args.c.now c.args.e.now c.args.point c.stands_twice.result c.stands_twice.ensures braking c.in_default.ensures.none (c.can_brake.ensures.brakes.0 (search rules)))

pub returns-clause-none : goal.returns-clause-none
returns-clause-none g c =
    let long = length-caps c.args.limits.now in
    let braking = KeepsBraking-cap (step_rule_of c.args.rule.now) (caps c.args.limits.now) c.args.c.now c.args.point c.cap_near-cap.result (omega arith) c.cap_near-cap.ensures.listed (omega arith)
    (iff_false c.brakes_early.ensures.early c.if-brakes_early.false) in
    rw c.then_some.ensures (IfNone-stands (step_rule_of c.args.rule.now) (caps c.args.limits.now) c.args.c.now c.args.e.now c.args.point c.stands_twice.result c.stands_twice.ensures braking c.in_default.ensures.none (c.can_brake.ensures.brakes.0 (search rules)))
