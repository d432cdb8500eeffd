use Rattle.unit_rules.proofs.RootFacts.{root_ceil-least}
use Rattle.unit_rules.proofs.roots.root_ceil.Goals as goal

pub returns-clause-least : goal.returns-clause-least
returns-clause-least c = rw c.both_roots-floor.ensures.ceiling (root_ceil-least c.args.n)
