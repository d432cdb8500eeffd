use Rattle.std.proofs.Common.{◌≡◌, ◌+◌, ◌-◌, arith, refl, sym, ◌∙◌, length-set, get_or-set_other, get_or-set_same, inl, inr}
use Rattle.std.proofs.lemmas.Bool.{cases_eq}
use Rattle.limit_profile.specs.Profile.{caps}
use Rattle.limit_profile.proofs.CapFacts.{length-caps}
use Rattle.run_rules.proofs.BrakingFacts.{IsGreatestFrom-set, IsGreatestFrom-stands, braking_list_by_points}
use Rattle.step_rule.specs.Motion.{step_rule_of}
use Rattle.brake_caps.proofs.ListFacts.{AgreeOutside-set, IsOwnBrakingList-caps}
use Rattle.brake_caps.proofs.walk_back.Goals as goal

pub loop-point-init : goal.loop-point-init
loop-point-init g c =
    let long = length-caps c.args.limits.now in
    record {
      least = omega arith;
      level = c.new-hints.ensures c.args.limits.now;
      right = λ i h l. c.requires.past i (omega arith) (omega arith);
      agree = record { same_points = refl; agrees = λ i h. refl };
      points = c.requires.points;
      cost = omega arith;
      start = λ h. refl;
      end_cost = λ h k. omega arith;
    }

pub loop-point-preserved : goal.loop-point-preserved
loop-point-preserved g c =
    let old = c.loop-point.invariant in
    let list = c.loop-point.c in
    let p = c.loop-point.point - 1 in
    let before : c.loop-point.point ≡ p + 1 = omega (arith, c.loop-point-test.true) in
    let long = length-caps c.args.limits.now in
    let number = c.number_at.result in
    record {
      least = omega (arith, c.loop-point-test.true);
      level = c.number_at.ensures.level;
      right = IsGreatestFrom-set (step_rule_of c.args.rule.now) (caps c.args.limits.now) list p number (omega (arith, old.points)) (omega arith) (λ i h l. old.right i (omega arith) l) c.number_at.ensures.number;
      agree = AgreeOutside-set c.args.c.now list p c.args.to number (rw before at old.agree) (omega arith);
      points = length-set list p number ∙ old.points;
      cost = omega (arith, old.cost, c.number_at.ensures.cost);
      start = λ h. absurd (omega arith);
      end_cost = λ h k. elim (cases_eq c.loop-point.point (c.args.to + 1)) [
        | inl e ↦ omega (arith, old.start e, c.number_at.ensures.end_cost (omega arith))
        | inr n ↦ omega (arith, old.end_cost h (omega (arith, c.loop-point.auto.point)), c.number_at.ensures.cost)
      ];
    }

pub loop-lowest-init : goal.loop-lowest-init
loop-lowest-init g c =
    let old = c.loop-point.invariant in
    let done : c.loop-point.point ≡ c.args.from = omega (arith, c.loop-point-test.false) in
    record {
      level = old.level;
      right = λ i h l. old.right i (omega arith) l;
      agree = rw done at old.agree;
      changed = λ i h l. absurd (omega arith);
      most = omega arith;
      points = old.points;
      cost = omega (arith, old.cost);
      end_cost = λ h. omega (arith, old.end_cost h (omega arith));
    }

pub loop-lowest-preserved : goal.loop-lowest-preserved
loop-lowest-preserved g c =
    let old = c.loop-lowest.invariant in
    let list = c.loop-lowest.c in
    let p = c.loop-lowest.lowest - 1 in
    let before : c.loop-lowest.lowest ≡ p + 1 = omega (arith, c.loop-lowest-test.true) in
    let long = length-caps c.args.limits.now in
    let number = c.number_at-number.result in
    record {
      level = c.number_at-number.ensures.level;
      right = IsGreatestFrom-set (step_rule_of c.args.rule.now) (caps c.args.limits.now) list p number (omega (arith, old.points)) (omega (arith, c.loop-lowest-test.true)) (λ i h l. old.right i (omega arith) l) c.number_at-number.ensures.number;
      agree = AgreeOutside-set c.args.c.now list p c.args.to number (rw before at old.agree) (omega (arith, old.most));
      changed = λ i h l. elim (cases_eq i p) [
        | inl e ↦ λ same. omega (arith, get_or-set_same list p number 0 (omega (arith, old.points, old.most)), rw e at same, old.agree.agrees p (inl (omega arith)), c.if-number-c.false)
        | inr n ↦ λ same. old.changed i (omega arith) l (sym (get_or-set_other list p i number 0 n) ∙ same)
      ];
      most = omega arith;
      points = length-set list p number ∙ old.points;
      cost = omega (arith, old.cost, c.number_at-number.ensures.cost);
      end_cost = λ h. omega (arith, old.end_cost h, c.number_at-number.ensures.cost);
    }

pub returns-then-number-c-clause-list : goal.returns-then-number-c-clause-list
returns-then-number-c-clause-list g c =
    let old = c.loop-lowest.invariant in
    let rule = step_rule_of c.args.rule.now in
    let limits = c.args.limits.now in
    let long = length-caps limits in
    let each = IsGreatestFrom-stands rule (caps limits) c.args.c.now c.loop-lowest.c c.loop-lowest.lowest c.args.from c.number_at-number.result (omega (arith, c.loop-lowest-test.true)) old.most c.requires.before (λ i h. sym (old.agree.agrees i (inl h))) old.right c.number_at-number.ensures.number (omega (arith, c.if-number-c.true)) in
    braking_list_by_points rule (caps limits) c.loop-lowest.c (omega (arith, old.points)) (λ i l. each i (omega arith) l)

pub returns-clause-list : goal.returns-clause-list
returns-clause-list g c =
    let old = c.loop-lowest.invariant in
    let limits = c.args.limits.now in
    let long = length-caps limits in
    braking_list_by_points (step_rule_of c.args.rule.now) (caps limits) c.loop-lowest.c (omega (arith, old.points)) (λ i l. old.right i (omega (arith, c.loop-lowest-test.false)) l)

pub returns-then-number-c-clause-brakes : goal.returns-then-number-c-clause-brakes
returns-then-number-c-clause-brakes g c =
    rw (c.requires.same_length, c.requires.same_top) at (IsOwnBrakingList-caps (step_rule_of c.args.rule.now) c.args.limits.now c.loop-lowest.c (returns-then-number-c-clause-list g c))

pub returns-clause-brakes : goal.returns-clause-brakes
returns-clause-brakes g c =
    rw (c.requires.same_length, c.requires.same_top) at (IsOwnBrakingList-caps (step_rule_of c.args.rule.now) c.args.limits.now c.loop-lowest.c (returns-clause-list g c))
