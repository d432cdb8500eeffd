use Rattle.std.specs.Result.{is_ok}
use Rattle.plan_tables.proofs.DraftFacts.{IsDraft-section}
use Rattle.plan_tables.proofs.draft.Draft.take_section.Goals as goal

pub invariant_of-self : goal.invariant_of-self
invariant_of-self c =
    let d = c.self.inside in
    IsDraft-section (record { line = d.line.now; depart = d.depart; enter = d.enter; leave = d.leave; calls = d.calls.items; sections = d.sections.items }) c.args.section c.push.new.self.items (is_ok c.push.result)
    c.self.invariant (rw (← c.self.view_is) at c.requires) c.push.ensures.items
