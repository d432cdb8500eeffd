use Rattle.unit_rules.proofs.RootFacts.{IsRootFloor-root}
use Rattle.unit_rules.proofs.roots.root_near.Goals as goal

pub returns-clause-root : goal.returns-clause-root
returns-clause-root c = IsRootFloor-root c.args.n c.isqrt.result (record { square_le = c.isqrt.ensures.square_le; next_square_gt = c.isqrt.ensures.next_square_gt })
