use Rattle.std.proofs.lemmas.List.Elements.{All-contains}
use Rattle.std.proofs.lemmas.Option.{IfSome_then}
use Rattle.line_tables.specs.Points.{StandsOn}
use Rattle.line_tables.proofs.PointFacts.{find_point-none, find_point-there}
use Rattle.line_tables.proofs.line.Line.find.Goals as goal

pub returns-clause-there : goal.returns-clause-there
returns-clause-there c = rw (c.find.ensures, ← c.self.view_is) (find_point-there c.args.name.now c.self.inside.points)

pub returns-clause-none : goal.returns-clause-none
returns-clause-none c = rw (c.find.ensures, ← c.self.view_is) (find_point-none c.args.name.now c.self.inside.points)

pub returns-clause-lies : goal.returns-clause-lies
returns-clause-lies c =
    rw (c.find.ensures, ← c.self.view_is) (IfSome_then _ (find_point-there c.args.name.now c.self.inside.points) (λ at there. All-contains (StandsOn c.self.inside.length) c.self.inside.points (c.args.name.now, at) c.self.invariant.points_lie there))
