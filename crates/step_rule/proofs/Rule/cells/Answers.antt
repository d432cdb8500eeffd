use Rattle.step_rule.proofs.MonotoneFacts.{step_rule-monotone}
use Rattle.step_rule.proofs.Rule.cells.Goals as goal

pub returns-clause-monotone : goal.returns-clause-monotone
returns-clause-monotone c = rw (← c.self.view_is) (step_rule-monotone _ c.self.invariant.moves)
