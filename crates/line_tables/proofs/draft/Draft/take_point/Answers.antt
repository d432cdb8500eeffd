use Rattle.std.specs.Result.{is_ok}
use Rattle.line_tables.proofs.DraftFacts.{IsDraft-point}
use Rattle.line_tables.proofs.draft.Draft.take_point.Goals as goal

pub invariant_of-self : goal.invariant_of-self
invariant_of-self c =
    IsDraft-point (record { line = c.self.inside.line; slopes = c.self.inside.slopes.items; limits = c.self.inside.limits.items; points = c.self.inside.points }) c.in-Ok-copied.name c.in-Ok.position c.add.new.self
    (is_ok c.add.result) c.self.invariant (rw (← c.self.view_is) at c.in-Ok.ensures.line) (rw (← c.self.view_is) at c.in-Ok.ensures.lies) (rw (c.in-Ok-copied.ensures, c.field.ensures) (rw (← c.self.view_is) at c.in-Ok.ensures.fresh)) c.add.ensures
