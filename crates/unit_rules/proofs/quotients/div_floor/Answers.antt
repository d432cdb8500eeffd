use Rattle.std.proofs.Common.{SFits}
use mir.Syntax.{w128}
use Rattle.std.proofs.lemmas.Int.{to_z-of_z}
use Rattle.unit_rules.proofs.FloorFacts.{int_div_euclid-floor}
use Rattle.unit_rules.proofs.quotients.div_floor.Goals as goal

pub returns-clause-floor : goal.returns-clause-floor
returns-clause-floor c =
    let a_fits : SFits w128 c.args.a = c.ranges.a in
    let b_fits : SFits w128 c.args.b = c.ranges.b in
    let result_fits : SFits w128 c.div_euclid.result = record { sfits = c.div_euclid.type_inv } in
    let q = simp to_z-of_z at c.div_euclid.ensures in
    simp to_z-of_z (rw q (int_div_euclid-floor c.args.a c.args.b c.requires.divisor))
