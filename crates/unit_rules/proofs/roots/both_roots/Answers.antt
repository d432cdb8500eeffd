use Rattle.unit_rules.proofs.RootFacts.{root_ceil-above, root_ceil-exact}
use Rattle.unit_rules.proofs.roots.both_roots.Goals as goal

pub returns-then-floor-n-clause-ceiling : goal.returns-then-floor-n-clause-ceiling
returns-then-floor-n-clause-ceiling c = root_ceil-exact c.args.n c.root_floor-floor.result c.root_floor-floor.ensures.root c.if-floor-n.true

pub returns-else-floor-n-clause-ceiling : goal.returns-else-floor-n-clause-ceiling
returns-else-floor-n-clause-ceiling c = root_ceil-above c.args.n c.root_floor-floor.result c.root_floor-floor.ensures.root c.if-floor-n.false
