use Rattle.std.proofs.Common.{arith}
use Rattle.run_rules.specs.Speeds.{squared}
use Rattle.step_rule.proofs.tests.stopped.Goals as goal

pub back_near-requires-clause-in_range : goal.back_near-requires-clause-in_range
unfolding squared
back_near-requires-clause-in_range g c = rw c.requires.top (omega arith)
