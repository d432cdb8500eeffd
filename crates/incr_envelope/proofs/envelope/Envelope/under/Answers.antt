use Rattle.std.proofs.Common.{refl}
use Rattle.incr_envelope.proofs.KeptFacts.{IsKept-made}
use Rattle.incr_envelope.proofs.envelope.Envelope.under.Goals as goal

pub invariant_of-envelope : goal.invariant_of-envelope
invariant_of-envelope g c =
    let both = c.in_ok-limits in
    let mass = c.mass-mass in
    IsKept-made (record { line = c.args.line; plan = c.args.plan; mass = mass.result; train = c.length-train.result; motion = both.rule; limits = both.limits; force = c.args.force; spare = 0; run = c.in_ok-run.run' })
    c.args.stock mass.ensures.mass c.length-train.ensures.length both.ensures.motion both.ensures.limits refl mass.ensures.kept c.course_of.ensures.force c.requires.plan c.requires.zones both.ensures.cells c.in_ok-run.ensures.fastest
