use Rattle.std.proofs.Common.{◌≡◌, ◌-◌, arith, inl, inr, length}
use Rattle.std.proofs.lemmas.Bool.{cases_eq}
use Rattle.limit_profile.specs.Profile.{caps}
use Rattle.limit_profile.proofs.CapFacts.{length-caps}
use Rattle.step_rule.specs.Motion.{step_rule_of}
use Rattle.cert_check.proofs.FaultFacts.{IsCertified-end, IsFirstBroken-end, IsFirstBroken-point, IsFirstBroken-points}
use Rattle.cert_check.proofs.StepFacts.{IsCapped-caps, speed-le}
use Rattle.cert_check.proofs.first_fault.Goals as goal
use Rattle.cert_check.proofs.first_fault.Goals.{then-c-points-via-then-c-points, then-c-points-via-else-c-points+then-e-points}

pub returns-then-c-points-clause-some : goal.returns-then-c-points-clause-some
returns-then-c-points-clause-some g c =
    let long = length-caps c.args.limits.now in
    IsFirstBroken-points (step_rule_of c.args.rule.now) (caps c.args.limits.now) c.args.c.now c.args.e.now c.args.verdict (elim c.then-c-points.branch [
      | then-c-points-via-then-c-points w ↦ inl (λ same. omega (arith, w.if-c-points.true))
      | then-c-points-via-else-c-points+then-e-points w ↦ inr (omega (arith, w.if-e-points.true))
    ])

pub point_fault-requires-clause-before : goal.point_fault-requires-clause-before
point_fault-requires-clause-before g c some l =
    let long = length-caps c.args.limits.now in
    let capped = IsCapped-caps c.args.rule.now c.args.limits.now c.cells-points.ensures.monotone c.requires.same_length c.requires.same_top in
    speed-le c.args.rule.now c.args.limits.now c.args.c.now c.args.e.now (c.loop-point.point - 1) capped (omega arith) (omega arith) (c.loop-point.invariant.kept (c.loop-point.point - 1) (omega arith))

pub returns-in-Some-clause-some : goal.returns-in-Some-clause-some
returns-in-Some-clause-some g c =
    let long = length-caps c.args.limits.now in
    IsFirstBroken-point (step_rule_of c.args.rule.now) (caps c.args.limits.now) c.args.c.now c.args.e.now c.args.verdict c.loop-point.point c.in-Some.broken
    (record { same = omega arith; few = omega arith }) c.loop-point.invariant.kept c.in-Some.ensures.some

pub loop-point-preserved : goal.loop-point-preserved
loop-point-preserved g c = record {
  level = c.point_fault.ensures.level;
  kept = λ j l. elim (cases_eq j c.loop-point.point) [
    | inl same ↦ rw same c.in_default.ensures.none
    | inr other ↦ c.loop-point.invariant.kept j (omega arith)
  ];
  cost = omega (arith, c.loop-point.invariant.cost, c.point_fault.ensures.cost);
}

pub unshown_end-requires-clause-in_range : goal.unshown_end-requires-clause-in_range
unshown_end-requires-clause-in_range g c i l =
    let long = length-caps c.args.limits.now in
    let capped = IsCapped-caps c.args.rule.now c.args.limits.now c.cells-points.ensures.monotone c.requires.same_length c.requires.same_top in
    speed-le c.args.rule.now c.args.limits.now c.args.c.now c.args.e.now i capped l (omega arith) (c.loop-point.invariant.kept i (omega (arith, c.loop-point-test.false)))

pub returns-in_err-point-clause-none : goal.returns-in_err-point-clause-none
returns-in_err-point-clause-none g c =
    let long = length-caps c.args.limits.now in
    let same : length c.args.c.now ≡ length (caps c.args.limits.now) = omega arith in
    rw c.from_residual.ensures (IsCertified-end (step_rule_of c.args.rule.now) (caps c.args.limits.now) c.args.c.now c.args.e.now c.args.verdict (record { same = same; few = omega arith })
    (λ j l. c.loop-point.invariant.kept j (omega (arith, c.loop-point-test.false))) (rw same at c.in_err-point.ensures.none))

pub returns-clause-some : goal.returns-clause-some
returns-clause-some g c =
    let long = length-caps c.args.limits.now in
    let same : length c.args.c.now ≡ length (caps c.args.limits.now) = omega arith in
    IsFirstBroken-end (step_rule_of c.args.rule.now) (caps c.args.limits.now) c.args.c.now c.args.e.now c.args.verdict c.in_ok-point.point (record { same = same; few = omega arith })
    (λ j l. c.loop-point.invariant.kept j (omega (arith, c.loop-point-test.false))) (rw same at c.in_ok-point.ensures.some)
