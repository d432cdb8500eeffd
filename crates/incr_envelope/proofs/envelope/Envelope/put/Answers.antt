use Rattle.std.proofs.Common.{◌≡◌, ap, subst, sym}
use Rattle.line_tables.specs.Line.{LineView}
use Rattle.unit_rules.specs.Zone.{LiesOn}
use Rattle.incr_envelope.proofs.KeptFacts.{IsKept-put, IsKept-room, WasFastest-put}
use Rattle.incr_envelope.specs.Envelope.{EnvelopeView}
use Rattle.incr_envelope.proofs.envelope.Envelope.put.Goals as goal

pub run_again-requires-clause-older : goal.run_again-requires-clause-older
run_again-requires-clause-older g c =
    let reserved = IsKept-room _ c.reserve.new.self 1 c.self.invariant c.in-Ok.ensures.made in
    rw (c.last_bound-to.ensures, c.length.ensures.length) (WasFastest-put _ c.args.zone c.add.new.self reserved c.add.ensures)

pub invariant_of-self-2 : goal.invariant_of-self-2
invariant_of-self-2 g c =
    let reserved = IsKept-room _ c.reserve.new.self 1 c.self.invariant c.in-Ok.ensures.made in
    let line : c.self.inside.line ≡ c.args.self.now.line = ap (λ (v : EnvelopeView). v.line) c.self.view_is in
    let lies = subst (λ (l : LineView). LiesOn l.length c.args.zone) (sym line) c.requires in
    let ok = c.in_ok-put.ensures in
    rw c.saturating_sub-self-inside.ensures
    (IsKept-put _ c.args.id c.args.zone c.add.new.self c.put.new.self c.run_again.new.run reserved lies c.add.ensures ok.put ok.spare c.put.ensures.force c.run_again.ensures.fastest)
