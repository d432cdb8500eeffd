use Rattle.std.proofs.Common.{◌≡◌, take}
use Rattle.restrictions.specs.Force.{zones_of}
use Rattle.restrictions.proofs.force.InForce.zones.Given as goal

-- the zones so far
abbrev pub invariant-loop-place : goal.invariant-loop-place
invariant-loop-place l = l.zones.items ≡ zones_of (take l.place l.self.pairs)
