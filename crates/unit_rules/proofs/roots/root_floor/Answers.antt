use Rattle.unit_rules.proofs.RootFacts.{root_floor-greatest}
use Rattle.unit_rules.proofs.roots.root_floor.Goals as goal

pub returns-clause-greatest : goal.returns-clause-greatest
returns-clause-greatest c = rw c.root_near.ensures.root (root_floor-greatest c.args.n)
