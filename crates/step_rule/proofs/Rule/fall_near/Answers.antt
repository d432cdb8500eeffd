use Rattle.std.proofs.Common.{arith}
use Rattle.std.proofs.lemmas.Int.{ints}
use Rattle.run_rules.specs.StepRules.{fall_from}
use Rattle.step_rule.proofs.Rule.fall_near.Goals as goal

pub returns-clause-value : goal.returns-clause-value
unfolding fall_from
returns-clause-value c =
    let e = c.at_near.ensures.value in
    let most = c.at_near.ensures.most in
    let least = c.at_near.ensures.least in
    rw (← c.self.view_is) (omega (arith, ints))
