use Rattle.cert_check.proofs.AnswerFacts.{IsAnswer-certified, IsAnswer-fault, seen}
use Rattle.cert_check.proofs.StepFacts.{IsCapped-caps}
use Rattle.cert_check.proofs.check.Goals as goal
use Rattle.cert_check.specs.Faults.{IsFirstBroken}
use Rattle.cert_check.specs.Rules.{IsCertified}
use Rattle.limit_profile.specs.Profile.{caps}
use Rattle.step_rule.specs.Motion.{most_of, step_rule_of}

pub returns-in-Some-clause-valid : goal.returns-in-Some-clause-valid
returns-in-Some-clause-valid g c =
    let first = seen (λ braking speeds verdict. IsFirstBroken (step_rule_of c.args.rule.now) (caps c.args.limits.now) braking speeds verdict c.in-Some.fault.point c.in-Some.fault.rule) c.args.cert.now _ _ _ c.deref.ensures.value c.deref-2.ensures.value c.cert.view_is c.in-Some.ensures.some in
    let capped = IsCapped-caps c.args.rule.now c.args.limits.now c.cells-cells.ensures.monotone c.requires.same_length c.requires.same_top in
    (IsAnswer-fault (step_rule_of c.args.rule.now) (caps c.args.limits.now) c.args.cert.now (most_of c.args.rule.now) c.in-Some.fault capped first).valid

pub returns-in-Some-clause-right : goal.returns-in-Some-clause-right
returns-in-Some-clause-right g c =
    let first = seen (λ braking speeds verdict. IsFirstBroken (step_rule_of c.args.rule.now) (caps c.args.limits.now) braking speeds verdict c.in-Some.fault.point c.in-Some.fault.rule) c.args.cert.now _ _ _ c.deref.ensures.value c.deref-2.ensures.value c.cert.view_is c.in-Some.ensures.some in
    let capped = IsCapped-caps c.args.rule.now c.args.limits.now c.cells-cells.ensures.monotone c.requires.same_length c.requires.same_top in
    (IsAnswer-fault (step_rule_of c.args.rule.now) (caps c.args.limits.now) c.args.cert.now (most_of c.args.rule.now) c.in-Some.fault capped first).right

pub returns-in-Some-clause-broken : goal.returns-in-Some-clause-broken
returns-in-Some-clause-broken g c =
    let first = seen (λ braking speeds verdict. IsFirstBroken (step_rule_of c.args.rule.now) (caps c.args.limits.now) braking speeds verdict c.in-Some.fault.point c.in-Some.fault.rule) c.args.cert.now _ _ _ c.deref.ensures.value c.deref-2.ensures.value c.cert.view_is c.in-Some.ensures.some in
    let capped = IsCapped-caps c.args.rule.now c.args.limits.now c.cells-cells.ensures.monotone c.requires.same_length c.requires.same_top in
    (IsAnswer-fault (step_rule_of c.args.rule.now) (caps c.args.limits.now) c.args.cert.now (most_of c.args.rule.now) c.in-Some.fault capped first).broken

pub returns-in-None-clause-valid : goal.returns-in-None-clause-valid
returns-in-None-clause-valid g c =
    let certified = seen (IsCertified (step_rule_of c.args.rule.now) (caps c.args.limits.now)) c.args.cert.now _ _ _ c.deref.ensures.value c.deref-2.ensures.value c.cert.view_is c.in-None.ensures.none in
    let capped = IsCapped-caps c.args.rule.now c.args.limits.now c.cells-cells.ensures.monotone c.requires.same_length c.requires.same_top in
    (IsAnswer-certified (step_rule_of c.args.rule.now) (caps c.args.limits.now) c.args.cert.now (most_of c.args.rule.now) c.cert.inside.verdict capped certified).valid

pub returns-in-None-clause-right : goal.returns-in-None-clause-right
returns-in-None-clause-right g c =
    let certified = seen (IsCertified (step_rule_of c.args.rule.now) (caps c.args.limits.now)) c.args.cert.now _ _ _ c.deref.ensures.value c.deref-2.ensures.value c.cert.view_is c.in-None.ensures.none in
    let capped = IsCapped-caps c.args.rule.now c.args.limits.now c.cells-cells.ensures.monotone c.requires.same_length c.requires.same_top in
    (IsAnswer-certified (step_rule_of c.args.rule.now) (caps c.args.limits.now) c.args.cert.now (most_of c.args.rule.now) c.cert.inside.verdict capped certified).right

pub returns-in-None-clause-broken : goal.returns-in-None-clause-broken
returns-in-None-clause-broken g c =
    let certified = seen (IsCertified (step_rule_of c.args.rule.now) (caps c.args.limits.now)) c.args.cert.now _ _ _ c.deref.ensures.value c.deref-2.ensures.value c.cert.view_is c.in-None.ensures.none in
    let capped = IsCapped-caps c.args.rule.now c.args.limits.now c.cells-cells.ensures.monotone c.requires.same_length c.requires.same_top in
    (IsAnswer-certified (step_rule_of c.args.rule.now) (caps c.args.limits.now) c.args.cert.now (most_of c.args.rule.now) c.cert.inside.verdict capped certified).broken
