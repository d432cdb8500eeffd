use Rattle.std.proofs.Common.{arith, refl}
use Rattle.incr_envelope.proofs.KeptFacts.{IsKept-reserved}
use Rattle.incr_envelope.proofs.envelope.Envelope.reserve.Goals as goal

pub invariant_of-self-2 : goal.invariant_of-self-2
invariant_of-self-2 c =
    IsKept-reserved _ c.reserve-2.new.self c.reserve.new.self c.args.count c.self.invariant (rw c.in_ok-reserve-2.ensures.made refl) c.reserve.ensures.force (rw c.in_ok-reserve.ensures.made refl)
    (rw c.in_ok-reserve.ensures.made (omega arith)) (rw c.in_ok-reserve-2.ensures.made (omega arith))
