use Rattle.std.proofs.Common.{◌∙◌, ap, map}
use Rattle.line_tables.specs.Points.{point_view}
use Rattle.line_tables.proofs.PointFacts.{points-insert}
use Rattle.line_tables.proofs.points.Points.add.Goals as goal

pub returns : goal.returns
returns c =
    rw (← c.self.view_is, ← c.into_bytes.ensures)
    (ap (map point_view) c.in_ok-insert.ensures.entries ∙ points-insert c.self.inside.positions c.into_bytes.result c.args.at (rw (← c.self.view_is, ← c.into_bytes.ensures) at c.requires))
