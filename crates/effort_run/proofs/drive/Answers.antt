use Rattle.std.proofs.Common.{◌≡◌, ◌+◌, arith, rules, sym, ◌∙◌, length-set, get_or-set_other, get_or-set_same, Some, inl, inr}
use Rattle.std.proofs.lemmas.Bool.{iff_false, cases_eq}
use Rattle.unit_rules.specs.Known.{known_at}
use Rattle.unit_rules.proofs.KnownFacts.{known_at-same, known_at-some}
use Rattle.run_rules.proofs.DrivingFacts.{IsDriven-capped, IsDriven-next, IsDriven-set}
use Rattle.run_rules.proofs.ResumeFacts.{EndsAt-resumed}
use Rattle.run_rules.proofs.StallFacts.{EndsAt-driven}
use Rattle.step_rule.specs.Motion.{step_rule_of}
use Rattle.effort_run.proofs.drive.Goals as goal
use Rattle.effort_run.proofs.drive.Goals.{else-i-to-via-then-i-to+else-stands, else-i-to-via-else-i-to}

pub number_after-requires-clause-in_range : goal.number_after-requires-clause-in_range
number_after-requires-clause-in_range g c =
    let capped = IsDriven-capped (step_rule_of c.args.rule.now) c.args.c.now c.loop-i.e (c.loop-i.i + 1) c.loop-i.invariant.driven c.loop-i.i (omega arith) in
    let small = c.requires.in_range c.loop-i.i (omega arith) in
    omega arith

pub returns-then-stands-clause-ends : goal.returns-then-stands-clause-ends
returns-then-stands-clause-ends g c =
    let inv = c.loop-i.invariant in
    let stood : known_at c.loop-i.e c.args.part.known (c.loop-i.i + 1) ≡ Some c.in-Some.number = search rules in
    let known = known_at-some c.loop-i.e c.args.part.known (c.loop-i.i + 1) c.in-Some.number stood in
    let driven = IsDriven-next (step_rule_of c.args.rule.now) c.args.c.now c.loop-i.e c.loop-i.i c.in-Some.number inv.driven c.in-Some.ensures.next known.1 in
    let older = c.requires.older (omega arith) in
    EndsAt-resumed (step_rule_of c.args.rule.now) older.0 c.args.c.now c.args.e.now c.loop-i.e c.args.part.from c.args.part.to c.args.part.known (c.loop-i.i + 1) older.1 older.2 (omega (arith, c.if-i-to.true)) known.0 driven (λ j h. inv.rest j (omega arith))

pub returns-in_default-clause-ends : goal.returns-in_default-clause-ends
returns-in_default-clause-ends g c = EndsAt-driven (step_rule_of c.args.rule.now) c.args.c.now c.loop-i.e c.loop-i.i c.loop-i.invariant.driven (omega arith) (λ h. c.in_default.ensures.none)

pub loop-i-preserved : goal.loop-i-preserved
loop-i-preserved g c =
    let inv = c.loop-i.invariant in
    record {
      driven = IsDriven-set (step_rule_of c.args.rule.now) c.args.c.now c.loop-i.e c.loop-i.i c.in-Some.number (omega (arith, inv.same_points)) inv.driven c.in-Some.ensures.next;
      rest = λ j h. get_or-set_other c.loop-i.e (c.loop-i.i + 1) j c.in-Some.number 0 (omega arith) ∙ inv.rest j (omega arith);
      before = λ j h. get_or-set_other c.loop-i.e (c.loop-i.i + 1) j c.in-Some.number 0 (omega (arith, inv.above)) ∙ inv.before j h;
      differs = λ j h k. elim (cases_eq j (c.loop-i.i + 1)) [
        | inl at ↦ rw (at, get_or-set_same c.loop-i.e (c.loop-i.i + 1) c.in-Some.number 0 (omega (arith, inv.same_points)))
            (elim c.else-i-to.branch [
              | else-i-to-via-then-i-to+else-stands w ↦ λ e. iff_false w.stands.ensures w.if-stands.false (known_at-same c.loop-i.e c.args.e.now c.args.part.known (c.loop-i.i + 1) (inv.rest (c.loop-i.i + 1) (omega arith)) ∙ sym e)
              | else-i-to-via-else-i-to w ↦ absurd (omega (arith, w.if-i-to.false))
            ])
        | inr n ↦ rw (get_or-set_other c.loop-i.e (c.loop-i.i + 1) j c.in-Some.number 0 n) (inv.differs j h (omega arith))
      ];
      cost = omega arith;
      same_points = length-set c.loop-i.e (c.loop-i.i + 1) c.in-Some.number ∙ inv.same_points;
      above = omega (arith, inv.above);
    }
