use Rattle.std.proofs.Common.{◌≡◌, ◌+◌, ◌*◌, ◌≤◌, ◌∙◌, Some, ap, arith, subst, sym}
use Rattle.unit_rules.specs.declared.Zone.{Zone}
use Rattle.incr_envelope.proofs.KeptFacts.{IsKept-taken, WasFastest-taken}
use Rattle.incr_envelope.proofs.ZoneFacts.{AreSame-contains, zone_lies}
use Rattle.restrictions.specs.Force.{zone_of}
use Rattle.incr_envelope.specs.Envelope.{EnvelopeView, touched_by}
use Rattle.incr_envelope.specs.Kept.{view_of}
use Rattle.incr_envelope.proofs.envelope.Envelope.take.Goals as goal

pub remove-requires : goal.remove-requires
remove-requires g c =
    let inside = c.self.inside in
    AreSame-contains inside.limits.zones inside.line.limits inside.force.pairs c.args.id c.in_ok-zone.zone c.self.invariant.limits.zones c.in_ok-zone.ensures.taken.0

pub last_bound-to-requires-clause-lies : goal.last_bound-to-requires-clause-lies
last_bound-to-requires-clause-lies g c =
    let inside = c.self.inside in
    rw c.length.ensures.length (zone_lies inside.line.length inside.force.pairs c.args.id c.in_ok-zone.zone c.self.invariant.scratch.zones_lie c.in_ok-zone.ensures.taken.0)

pub run_again-requires-clause-same_length : goal.run_again-requires-clause-same_length
run_again-requires-clause-same_length g c = let kept = c.self.invariant in rw c.remove.ensures.rest (omega (arith, kept.limits.metres, kept.cells))

pub run_again-requires-clause-stretch : goal.run_again-requires-clause-stretch
run_again-requires-clause-stretch g c =
    let inside = c.self.inside in
    let lies = zone_lies inside.line.length inside.force.pairs c.args.id c.in_ok-zone.zone c.self.invariant.scratch.zones_lie c.in_ok-zone.ensures.taken.0 in
    let to = c.last_bound-to.ensures in
    (omega (arith, to, c.length.ensures.length, lies.rises, lies.ends), omega (arith, to, c.length.ensures.length, c.self.invariant.cells))

pub run_again-requires-clause-older : goal.run_again-requires-clause-older
run_again-requires-clause-older g c =
    rw (c.last_bound-to.ensures, c.length.ensures.length) (WasFastest-taken _ c.in_ok-zone.zone c.remove.new.self c.self.invariant c.remove.ensures)

pub invariant_of-self-2 : goal.invariant_of-self-2
invariant_of-self-2 g c =
    let taken = c.in_ok-zone.ensures.taken in
    IsKept-taken _ c.args.id c.in_ok-zone.zone c.remove.new.self c.take.new.self c.run_again.new.run c.self.invariant taken.0 c.remove.ensures taken.1 c.take.ensures.force c.run_again.ensures.fastest

pub returns-clause-cost : goal.returns-clause-cost
returns-clause-cost g c = λ z at.
    let cost = rw (c.last_bound-to.ensures, c.length.ensures.length, c.self.invariant.cells) at c.run_again.ensures.cost in
    let inside = c.self.inside in
    let after : EnvelopeView = view_of (record {
      line = inside.line;
      plan = inside.plan;
      mass = inside.mass;
      train = inside.train;
      motion = inside.rule;
      limits = c.remove.new.self;
      force = c.take.new.self;
      spare = inside.spare + 1;
      run = c.run_again.new.run;
    }) in
    let zone : c.in_ok-zone.zone ≡ z = let one : Some c.in_ok-zone.zone ≡ Some z = sym (rw (ap (λ (v : EnvelopeView). zone_of c.args.id v.force) c.self.view_is) at c.in_ok-zone.ensures.taken.0) ∙ at in cc in
    let here = subst (λ (v : EnvelopeView). c.run_again.new.steps ≤ c.args.steps.now + 35 * (touched_by c.in_ok-zone.zone v after + 2) + 1024) c.self.view_is cost in
    subst (λ (y : Zone). c.run_again.new.steps ≤ c.args.steps.now + 35 * (touched_by y c.args.self.now after + 2) + 1024) zone here
