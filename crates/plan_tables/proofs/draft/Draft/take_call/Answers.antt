use Rattle.std.specs.Result.{is_ok}
use Rattle.plan_tables.proofs.DraftFacts.{IsDraft-call}
use Rattle.plan_tables.proofs.draft.Draft.take_call.Goals as goal

pub invariant_of-self : goal.invariant_of-self
invariant_of-self c =
    let d = c.self.inside in
    IsDraft-call (record { line = d.line.now; depart = d.depart; enter = d.enter; leave = d.leave; calls = d.calls.items; sections = d.sections.items }) c.args.call c.push.new.self.items (is_ok c.push.result)
    c.self.invariant (rw (← c.self.view_is) at c.requires) c.push.ensures.items
