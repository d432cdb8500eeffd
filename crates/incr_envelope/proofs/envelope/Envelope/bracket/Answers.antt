use Rattle.std.proofs.Common.{◌≡◌, ◌<◌, ◌∙◌, Some, ap, arith, length, subst}
use Rattle.allowances.specs.Arrivals.{arrival}
use Rattle.time_brackets.specs.declared.Bracket.{Bracket}
use Rattle.incr_envelope.proofs.KeptFacts.{arrival_in-known}
use Rattle.incr_envelope.specs.Envelope.{EnvelopeView, arrival_in}
use Rattle.incr_envelope.specs.Kept.{Fields, view_of}
use Rattle.incr_envelope.proofs.envelope.Envelope.bracket.Goals as goal

pub arrival_at-requires-clause-on_line : goal.arrival_at-requires-clause-on_line
arrival_at-requires-clause-on_line g c = omega (arith, c.known.ensures.short, c.requires.on_line)

pub returns-clause-arrival : goal.returns-clause-arrival
returns-clause-arrival g c =
    let inside = c.self.inside in
    let point = c.args.point in
    let fields : Fields = record { line = inside.line; plan = inside.plan; mass = inside.mass; train = inside.train; motion = inside.rule; limits = inside.limits; force = inside.force; spare = inside.spare; run = inside.run } in
    let is = c.self.view_is in
    let known : point < length (view_of fields).speeds = rw (ap (λ (v : EnvelopeView). length v.speeds) is) (omega (arith, c.known.ensures.known, c.if-point-known.false)) in
    let found : c.arrival_at.result ≡ arrival inside.plan inside.run.speeds.items point = rw c.deref.ensures.value at c.arrival_at.ensures.arrival in
    ap (λ (b : Bracket). Some b) found ∙ subst (λ (v : EnvelopeView). Some (arrival inside.plan inside.run.speeds.items point) ≡ arrival_in v point) is (arrival_in-known fields point known)
