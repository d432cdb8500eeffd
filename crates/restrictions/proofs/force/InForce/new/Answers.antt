use Rattle.restrictions.proofs.KeptFacts.{IsKept-none}
use Rattle.restrictions.proofs.force.InForce.new.Goals as goal

pub invariant_of-result : goal.invariant_of-result
invariant_of-result c = rw (c.new.ensures.items, c.new-2.ensures.items) (IsKept-none _ _)
