use Rattle.table_laws.proofs.ToyFacts.{squared-toy}
use Rattle.step_rule.specs.Motion.{kmh_of}
use Rattle.step_rule.proofs.tests.bounds.Goals as goal

pub up-requires-clause-in_range : goal.up-requires-clause-in_range
up-requires-clause-in_range g c = squared-toy (kmh_of c.args.rule.now) c.args.u c.requires.top c.requires.in_range

pub low-requires-clause-in_range : goal.low-requires-clause-in_range
low-requires-clause-in_range g c = squared-toy (kmh_of c.args.rule.now) c.args.u c.requires.top c.requires.in_range
