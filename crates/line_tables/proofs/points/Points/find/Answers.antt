use Rattle.std.proofs.Common.{◌∙◌, ap}
use Rattle.line_tables.specs.Points.{find_point}
use Rattle.line_tables.proofs.PointFacts.{find_point-lookup}
use Rattle.line_tables.proofs.points.Points.find.Goals as goal

pub returns : goal.returns
returns c = c.copied.ensures ∙ c.get.ensures.value ∙ find_point-lookup c.args.name.now c.self.inside.positions.entries ∙ ap (find_point c.args.name.now) c.self.view_is
