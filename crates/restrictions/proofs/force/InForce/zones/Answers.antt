use Rattle.restrictions.proofs.ForceFacts.{zones_of-more}
use Rattle.restrictions.proofs.force.InForce.zones.Goals as goal

pub loop-place-preserved : goal.loop-place-preserved
loop-place-preserved c =
    rw (zones_of-more c.args.self.now.pairs c.loop-place.place c.nth-id.result c.nth-id.ensures.pair) (rw c.loop-place.invariant at c.in-Ok.ensures.items)
