use Rattle.std.proofs.Common.{arith, SFits, w64, pos, ◌-ℤ◌}
use Rattle.std.proofs.lemmas.Int.{ints, to_z-of_z}
use Rattle.unit_rules.proofs.FloorFacts.{floor_div-least, floor_div-most}
use Rattle.step_rule.proofs.pushed.Goals as goal

pub returns : goal.returns
returns c =
    let push_fits : SFits w64 c.args.push = c.ranges.push in
    let pull_fits : SFits w64 c.args.pull = c.ranges.pull in
    let fits : SFits w64 (c.args.push -ℤ c.args.pull) = omega (arith, ints) in
    let u_fits : SFits w64 (pos c.args.u) = omega (arith, ints) in
    let q = simp to_z-of_z at c.floor.ensures in
    let most = floor_div-most (c.args.push -ℤ c.args.pull) c.args.moved.now 4000000000000000 (omega (arith, ints)) in
    let least = floor_div-least (c.args.push -ℤ c.args.pull) c.args.moved.now 4000000000000000 (omega (arith, ints)) in
    rw c.from.ensures (omega (arith, ints))
