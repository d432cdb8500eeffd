use Rattle.std.proofs.Common.{arith, SFits, pos, ◌-ℤ◌, unsigned_abs}
use mir.Syntax.{w128}
use Rattle.std.proofs.lemmas.Int.{ints, to_z-of_z}
use Rattle.unit_rules.proofs.FloorFacts.{ceil_div-turned, floor_div-fits, IsCeilingOf-turned}
use Rattle.unit_rules.proofs.quotients.div_ceil.Goals as goal

pub returns-clause-quotient : goal.returns-clause-quotient
returns-clause-quotient c =
    let a_fits : SFits w128 c.args.a = c.ranges.a in
    let b_fits : SFits w128 c.args.b = c.ranges.b in
    let result_fits : SFits w128 c.div_floor.result = record { sfits = c.div_floor.type_inv } in
    let turned : SFits w128 (pos 0 -ℤ c.args.a) = omega (arith, ints) in
    let q = simp to_z-of_z at c.div_floor.ensures.quotient in
    let fits = floor_div-fits c.args.a c.div_floor.result (unsigned_abs c.args.b) c.requires.least c.requires.most q in
    simp to_z-of_z (ceil_div-turned c.args.a c.div_floor.result (unsigned_abs c.args.b) q)

pub returns-clause-ceiling : goal.returns-clause-ceiling
returns-clause-ceiling c =
    let a_fits : SFits w128 c.args.a = c.ranges.a in
    let b_fits : SFits w128 c.args.b = c.ranges.b in
    let result_fits : SFits w128 c.div_floor.result = record { sfits = c.div_floor.type_inv } in
    let turned : SFits w128 (pos 0 -ℤ c.args.a) = omega (arith, ints) in
    let q = simp to_z-of_z at c.div_floor.ensures.quotient in
    let fits = floor_div-fits c.args.a c.div_floor.result (unsigned_abs c.args.b) c.requires.least c.requires.most q in
    let f = simp to_z-of_z at c.div_floor.ensures.floor in
    simp to_z-of_z (IsCeilingOf-turned c.args.a c.args.b c.div_floor.result f)
