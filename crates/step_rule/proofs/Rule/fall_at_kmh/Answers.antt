use Rattle.std.proofs.Common.{◌≤◌, arith}
use Rattle.std.proofs.lemmas.Int.{ints}
use Rattle.run_rules.specs.Grids.{top_of}
use Rattle.step_rule.proofs.BrakeFacts.{fall_from-squared}
use Rattle.step_rule.proofs.Rule.fall_at_kmh.Goals as goal

pub returns-clause-value : goal.returns-clause-value
returns-clause-value c =
    let value = c.row-value.ensures.value in
    let square = c.squared.ensures in
    let first = fall_from-squared c.self.inside.brake.rows c.args.kmh in
    let tops = c.self.invariant.moves.tops in
    let slow = rw (← c.self.view_is) at c.requires in
    let on : c.args.kmh ≤ top_of c.self.inside.brake.rows = omega arith in
    let most = c.self.invariant.moves.brake_lawful.in_range.most c.args.kmh on in
    let least = c.self.invariant.moves.brake_lawful.in_range.least c.args.kmh on in
    rw (← c.self.view_is) (omega (arith, ints))
