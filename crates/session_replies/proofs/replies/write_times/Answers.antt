use Rattle.std.proofs.Common.{◌≡◌, ◌∙◌, sym}
use Rattle.unit_rules.specs.declared.Reach.TheVariants as reach
use Rattle.session_replies.proofs.TimesFacts.{Tells-stall}
use Rattle.session_replies.proofs.replies.write_times.Goals as goal

pub returns-in-Stalled : goal.returns-in-Stalled
returns-in-Stalled g c =
    let v = c.args.envelope.now in
    let k = c.in-Stalled.k in
    let stalled : v.reach ≡ reach.Stalled k = sym c.reach.ensures.reach ∙ c.in-Stalled.is in
    let text = c.write_reach.ensures in
    rw c.replied.ensures (Tells-stall v k (g.K.Sink.told c.args.out.now) (g.K.Sink.told c.write_reach.new.out) c.args.steps.now c.write_reach.result stalled text.ok text.failed text.cause)
