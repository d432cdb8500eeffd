use Rattle.table_laws.proofs.ToyFacts.{squared-toy}
use Rattle.step_rule.specs.Motion.{kmh_of}
use Rattle.step_rule.proofs.tests.back.Goals as goal

pub back-requires-clause-in_range : goal.back-requires-clause-in_range
back-requires-clause-in_range g c = squared-toy (kmh_of c.args.rule.now) c.args.most c.requires.top c.requires.in_range
