use Rattle.std.specs.Result.{is_ok}
use Rattle.line_tables.proofs.DraftFacts.{IsDraft-slope}
use Rattle.line_tables.proofs.draft.Draft.take_gradient.Goals as goal

pub invariant_of-self : goal.invariant_of-self
invariant_of-self c =
    IsDraft-slope (record { line = c.self.inside.line; slopes = c.self.inside.slopes.items; limits = c.self.inside.limits.items; points = c.self.inside.points }) c.in-Ok.slope c.push.new.self.items
    (is_ok c.push.result) c.self.invariant (rw (← c.self.view_is) at c.in-Ok.ensures.line) (rw (← c.self.view_is) at c.in-Ok.ensures.lies) (rw (← c.self.view_is) at c.in-Ok.ensures.follows) c.push.ensures.items
